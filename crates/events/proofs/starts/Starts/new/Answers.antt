use Rattle.std.proofs.Common.{List, ◌++◌, length, ℤ, pos, ap, ◌∙◌, subst, sym}
use Rattle.std.proofs.lemmas.List.{drop-replicate}
use Rattle.events.specs.Starts.{IsTable, zeros}
use Rattle.events.proofs.Tables.{table_is}
use Rattle.events.proofs.starts.Starts.new.Goals as goal

pub invariant_of-result : goal.invariant_of-result
invariant_of-result c =
    let values = c.args.values.now in
    subst (λ (table : List ℤ). IsTable (record { values = table; count = length values }))
    (ap (λ (front : List ℤ). front ++ zeros values) (sym c.copy_from_slice.ensures.after) ∙ ap (λ (back : List ℤ). c.copy_from_slice.new.self ++ back) (sym (drop-replicate (length values) 32 (pos 0))))
    (table_is values c.if-count-gt-VARIABLES.false)
