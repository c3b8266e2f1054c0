use Rattle.std.proofs.Common.{◌≡◌, ◌<◌, Bool, true, false, length, Some, None, Option, sym, refl, ◌∙◌, inl, inr, ⊎_elim, subst, arith, length-set}
use Rattle.std.specs.Bool.{then_some}
use Rattle.std.proofs.lemmas.Bool.{eqb-true, eqb-false}
use Rattle.std.proofs.lemmas.List.{drop-set-lt, drop-replicate}
use Rattle.formula.specs.declared.node.Node.TheVariants.{Mark}
use Rattle.formula.specs.declared.node.Table.{Table}
use Rattle.formula.specs.Truth.{size}
use Rattle.formula.specs.Words.{no_word, word_at, Placing, Missing, CompiledTo, BlankBeyond}
use Rattle.formula.proofs.Backward.{Taken, taken}
use Rattle.formula.proofs.Spelt.{more}
use Rattle.formula.proofs.Views.{none_fits, same_size, stuck}
use Rattle.formula.proofs.compile.compile.Goals as goal

pub returns-then-is_empty-clause-table : goal.returns-then-is_empty-clause-table
returns-then-is_empty-clause-table c few f s = ⊎_elim (λ e. none_fits c.args.words.now (inl (eqb-true (length c.args.words.now) 0 (sym c.is_empty.ensures ∙ e))) few f s) (λ h. none_fits c.args.words.now (inr h.1) few f s) c.then-is_empty.either

pub loop-i-preserved : goal.loop-i-preserved
loop-i-preserved c =
    let ws = c.args.words.now in
    let l = c.loop-i in
    let i = c.in-Some.i in
    let node = c.in_ok-node.node in
    let end = c.in_ok-node.end in
    let h = c.in-Some.ensures.steps in
    let t : Taken ws no_word l.i-iterator c.next.new.self i c.in-Some.word.now = taken ws no_word l.i-iterator c.next.new.self i c.in-Some.word.now l.invariant.ahead h.0 h.1.0 h.1.1 in
    let placed : Placing i (length ws) l.ends (word_at ws i) node end =
    subst (λ w. Placing i (length ws) l.ends w node end) (sym t.item) (subst (λ n. Placing i n l.ends c.in-Some.word.now node end) l.invariant.ends c.in_ok-node.ensures) in
    record {
      ahead = t.ahead;
      rows = simp length-set l.invariant.rows;
      ends = simp length-set l.invariant.ends;
      good = λ k a b. more ws (length ws) l.nodes l.ends i node end t.low (omega (arith, t.low, l.invariant.rows)) (omega (arith, t.low, l.invariant.ends))
          (λ j m u. l.invariant.good j (omega (arith, t.more)) u) placed k (omega (arith, t.here)) b;
      blank = drop-set-lt (length ws) l.nodes i node t.low ∙ l.invariant.blank;
    }

pub returns-in_err-node-clause-table : goal.returns-in_err-node-clause-table
returns-in_err-node-clause-table c =
    let ws = c.args.words.now in
    let l = c.loop-i in
    let i = c.in-Some.i in
    let h = c.in-Some.ensures.steps in
    let t : Taken ws no_word l.i-iterator c.next.new.self i c.in-Some.word.now = taken ws no_word l.i-iterator c.next.new.self i c.in-Some.word.now l.invariant.ahead h.0 h.1.0 h.1.1 in
    let miss : Missing i (length ws) l.ends (word_at ws i) =
    subst (λ w. Missing i (length ws) l.ends w) (sym t.item) (subst (λ n. Missing i n l.ends c.in-Some.word.now) l.invariant.ends c.in_err-node.ensures) in
    subst (CompiledTo ws) (sym c.from_residual.ensures)
    (λ few f s. stuck ws (length ws) l.nodes l.ends i t.low (λ j m u. l.invariant.good j (omega (arith, t.more)) u) miss f s.0 s.1)

-- what is so of the table where it is handed out, and of none where it is not
either : (P : Option Table → Type 0) (same : Bool) (t : Table) (r : Option Table) → r ≡ then_some same t → (same ≡ true → P (Some t)) → (same ≡ false → P None) → P r
either P true t r e there missing = subst P (sym e) (there refl)
either P false t r e there missing = subst P (sym e) (missing refl)

pub returns-clause-table : goal.returns-clause-table
returns-clause-table c =
    let ws = c.args.words.now in
    let none = eqb-false (length ws) 0 (sym c.is_empty.ensures ∙ c.if-is_empty.false) in
    let some : 0 < length ws = omega (arith, none) in
    let g = c.loop-i.invariant.good 0 (omega (arith, c.in-None.ensures.steps.1.0)) some in
    either (CompiledTo ws) _ _ _ c.then_some.ensures
    (λ e.
    let same : size g.form ≡ length ws = omega (arith, g.ends_at, eqb-true _ _ e) in
    (omega arith, (g.form, (g.spelt, same), record { numbered = g.numbered; all = sym same })))
    (λ e few f s.
    let same = same_size ws 0 f g.form s.0 g.spelt in
    eqb-false _ _ e (omega (arith, g.ends_at, same, s.1)))

pub returns-clause-beyond : goal.returns-clause-beyond
returns-clause-beyond c = either BlankBeyond _ _ _ c.then_some.ensures (λ e. c.loop-i.invariant.blank ∙ drop-replicate (length c.args.words.now) 60 (Mark 0)) (λ e. tt)
