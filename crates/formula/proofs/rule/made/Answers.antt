use Rattle.std.proofs.Common.{◌<◌, ◌≤◌, refl, subst, arith}
use Rattle.formula.specs.Suiting.{Suited}
use Rattle.formula.specs.Table.{Sound}
use Rattle.formula.specs.Words.{CompiledTo}
use Rattle.formula.proofs.Made.{is_some, tabled}
use Rattle.formula.proofs.Rows.{sound_from}
use Rattle.formula.proofs.Stands.{watch_from}
use Rattle.formula.proofs.Truths.{size_pos}
use Rattle.formula.proofs.rule.made.Goals as goal

pub unwrap-table-requires : goal.unwrap-table-requires
unwrap-table-requires c =
    is_some c.args.text.now c.count.result c.in_ok-spelling.spelling c.in_ok-spelling.ensures.1 c.in_ok-spelling.ensures.2 c.in_ok-check.ensures c.compile.result (subst (λ ws. CompiledTo ws c.compile.result) c.as_slice.ensures.words c.compile.ensures.table)

pub invariant_of-result : goal.invariant_of-result
invariant_of-result c =
    let t = c.args.text.now in
    let v = c.count.result in
    let read = c.in_ok-spelling.ensures in
    let legal = read.1 in
    let sp = read.2 legal.0 legal.1 legal.2 in
    let told = c.in_ok-check.ensures legal.0 sp in
    let x = c.unwrap-table.result in
    let tab = tabled t v c.in_ok-spelling.spelling legal read.2 c.in_ok-check.ensures c.compile.result (subst (λ ws. CompiledTo ws c.compile.result) c.as_slice.ensures.words c.compile.ensures.table) x c.unwrap-table.ensures legal.0 legal.1 legal.2 in
    record {
      some = omega (arith, tab.all, size_pos legal.0);
      few = omega (arith, tab.all, told.0);
      sound = subst (λ n. Sound n x.len x.nodes) c.count.ensures.count (sound_from v x.len x.nodes legal.0 tab told.1);
    }

pub returns : goal.returns
returns c =
    let t = c.args.text.now in
    let v = c.count.result in
    let read = c.in_ok-spelling.ensures in
    let legal = read.1 in
    let sp = read.2 legal.0 legal.1 legal.2 in
    let told = c.in_ok-check.ensures legal.0 sp in
    let x = c.unwrap-table.result in
    let tab = tabled t v c.in_ok-spelling.spelling legal read.2 c.in_ok-check.ensures c.compile.result (subst (λ ws. CompiledTo ws c.compile.result) c.as_slice.ensures.words c.compile.ensures.table) x c.unwrap-table.ensures in
    record {
      made = record {
        of = legal.0;
        written = record { short = read.0; nests = legal.1; spells = legal.2; fits = sp.fits };
        few = told.0;
        suited = subst (λ n. Suited n legal.0) c.count.ensures.count told.1;
        tabled = tab legal.0 legal.1 legal.2;
        begins = refl;
      };
      watches = λ f n e. watch_from _ _ refl f (tab f n e);
    }
