-- What a rule that was made and a judgement by it come to.
use Rattle.std.proofs.Common.{◌≡◌, ℕ, List, Ok, Err, MatchResult, Result, sym, ap, ◌∙◌, subst}
use Rattle.events.specs.declared.event.Event.{Event}
use Rattle.events.specs.Noting.{Opening}
use Rattle.formula.specs.declared.fault.RuleFault.{RuleFault}
use Rattle.formula.specs.declared.formula.Formula.{Formula as Compiled}
use Rattle.formula.specs.Making.{MadeOver, WatchesText}
use Rattle.formula.specs.Meant.{meant}
use Rattle.judge.specs.declared.refusal.JudgeRefusal.{JudgeRefusal}
use Rattle.judge.specs.declared.row.SearchRow.{SearchRow}
use Rattle.judge.specs.declared.verdict.Judgement.{Judgement}
use Rattle.judge.specs.Judging.{Judged}
use Rattle.text.specs.declared.place.Place.{Place}
use Rattle.predictor.specs.declared.fault.Fault.{Fault}
use Rattle.predictor.specs.declared.fault.Fault.TheVariants.{Search}
use Rattle.predictor.specs.Ruled.{Ruled}

-- a rule that passed was made
pub rule_made : (o : Opening) (t : List ℕ) (m : Result Compiled RuleFault) (c : Compiled) → MatchResult m (λ x. ◌≡◌ {A = Result Compiled Fault} (Ok c) (Ok x)) (λ e. ⊥)
    → MadeOver o t m → WatchesText o.starts t m → MadeOver o t (Ok c) × WatchesText o.starts t (Ok c)
rule_made o t (Ok x) c same made watches =
    let is : x ≡ c = cc in
    let M : Compiled → Type 0 = λ y. MadeOver o t (Ok y) × WatchesText o.starts t (Ok y) in
    subst M is (made, watches)
rule_made o t (Err cause) c same made watches = absurd same

-- a judgement that is refused
pub search_fault : (o : Opening) (es : List Event) (t : List ℕ) (start : Place) (rows rows' : List SearchRow) (list list' : List ℕ) (c : Compiled)
    (why : JudgeRefusal) (f : Fault) (r : Result Judgement Fault) → r ≡ Err f → f ≡ Search why → MadeOver o t (Ok c) → Judged o es (meant c) rows list (Err why) rows' list'
    → Ruled o es t start rows list r rows' list'
search_fault o es t start rows rows' list list' c why f r e q made h =
    let P : Result Judgement Fault → Type 0 = λ x. Ruled o es t start rows list x rows' list' in
    subst P (sym (e ∙ ap Err q)) (c, made, h)
