-- What a judgement by a rule says in the words of the rule.
use Rattle.std.proofs.Common.{◌≡◌, ℕ, zero, suc, List, length, ℤ, Some, None, Ok, Option, refl, subst, le_trans, le_refl, arith}
use Rattle.events.specs.declared.event.Action.{Action}
use Rattle.events.specs.declared.event.Event.{Event}
use Rattle.events.specs.declared.refusal.OpenRefusal.{OpenRefusal}
use Rattle.events.specs.First.{first_fit}
use Rattle.events.specs.Noting.{open_tests, opened_as}
use Rattle.formula.specs.declared.formula.Formula.{Formula as Compiled}
use Rattle.formula.specs.Meant.{meant}
use Rattle.formula.specs.Theorem.{Watches}
use Rattle.grammar.specs.Recording.{Recording, Formula, eq, lt, gt, mark, by, neg, before, once, always, and, or, implies, since, Nests}
use Rattle.judge.specs.declared.row.SearchRow.{SearchRow}
use Rattle.judge.specs.Said.{LeastBreak}
use Rattle.monitor.specs.Meaning.{Violates}
use Rattle.pairs.specs.Judged.{actions, Breaks}
use Rattle.text.specs.declared.place.Place.{Place}
use Rattle.predictor.specs.declared.predicting.Prediction.{Prediction}
use Rattle.predictor.specs.Outcome.{opening_for}
use Rattle.predictor.specs.Ruled.{Ruled}
use Rattle.predictor.specs.Predicted.{Ready, rule_text, judgement_of, Broken, BreaksRule, LeastBroken, RuleTold}

-- what can be written in fewer levels can be written in more
nests_more : (d : ℕ) (f : Formula) → Nests d f → Nests (suc d) f
nests_more d (eq x c) h = h
nests_more d (lt x c) h = h
nests_more d (gt x c) h = h
nests_more d (mark k) h = h
nests_more d (by t) h = h
nests_more zero (neg f) h = absurd h
nests_more (suc d) (neg f) h = nests_more d f h
nests_more zero (before f) h = absurd h
nests_more (suc d) (before f) h = nests_more d f h
nests_more zero (once f) h = absurd h
nests_more (suc d) (once f) h = nests_more d f h
nests_more zero (always f) h = absurd h
nests_more (suc d) (always f) h = nests_more d f h
nests_more zero (and f g) h = absurd h
nests_more (suc d) (and f g) h = (nests_more d f h.0, nests_more d g h.1)
nests_more zero (or f g) h = absurd h
nests_more (suc d) (or f g) h = (nests_more d f h.0, nests_more d g h.1)
nests_more zero (implies f g) h = absurd h
nests_more (suc d) (implies f g) h = (nests_more d f h.0, nests_more d g h.1)
nests_more zero (since f g) h = absurd h
nests_more (suc d) (since f g) h = (nests_more d f h.0, nests_more d g h.1)

-- an opening that is not void has the starting values that were asked for
starts_kept : (w : Option OpenRefusal) (n : ℕ) (starts : List ℤ) (room : ℕ) → (opened_as w n starts room).void ≡ None → (opened_as w n starts room).starts ≡ starts
starts_kept (Some why) n starts room h = let z : ◌≡◌ {A = ℕ} 0 1 = cc in absurd (omega arith)
starts_kept None n starts room h = refl

-- a run violates what the rule means exactly when it breaks the rule
module _ (starts : List ℤ) (c : Compiled) (f : Formula) (watch : Watches starts c f) where
  broken_by : (run : List Action) → Violates (meant c) run → Broken starts f run
  broken_by run v = let b = (watch.bad run v.0 v.1).0 v.2 in (b.0, b.1, le_trans b.2 v.1, b.3)

  violated_by : (run : List Action) → Broken starts f run → Violates (meant c) run
  violated_by run b = (length run, le_refl (length run), (watch.bad run (length run) (le_refl (length run))).1 b)

  rule_of : (es : List Event) (r : List ℕ) → Breaks es (meant c) r → BreaksRule starts f es r
  rule_of es r b = (b.0, broken_by (actions es r) b.1)

  meaning_of : (es : List Event) (r : List ℕ) → BreaksRule starts f es r → Breaks es (meant c) r
  meaning_of es r b = (b.0, violated_by (actions es r) b.1)

  least : (es : List Event) (list : List ℕ) → LeastBreak es (meant c) list → LeastBroken starts f es list
  least es list b =
      record {
        run = b.run;
        breaks = rule_of es b.run b.breaks;
        listed = b.listed;
        others = λ s h. b.others s (meaning_of es s h);
      }

pub told : (t : List ℕ) (room : ℕ) (q : Recording) (es : List Event) (p : Prediction) (start : Place) (rows rows' : List SearchRow) (list list' : List ℕ)
    → Ready t room q es → Ruled (opening_for q room) es (rule_text q) start rows list (Ok (judgement_of p)) rows' list' → RuleTold q es p list'
told t room q es p start rows rows' list list' ready v =
    let same : (opening_for q room).starts ≡ q.starts = starts_kept (first_fit (open_tests q.threads q.starts room)) q.threads q.starts room ready.opens in
    let P : List ℤ → Type 0 = λ s. Watches s v.0 q.rule in
    let watch : Watches q.starts v.0 q.rule = subst P same (v.2 q.rule (nests_more 14 q.rule ready.right.1.rule) refl) in
    record {
      none = λ e r b. v.4.0 e r (meaning_of q.starts v.0 q.rule watch es r b);
      never = λ h. v.4.1 (λ r b. h r (rule_of q.starts v.0 q.rule watch es r b));
      found = λ e. least q.starts v.0 q.rule watch es list' (v.5 e);
    }
