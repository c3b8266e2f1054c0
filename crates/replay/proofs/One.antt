-- At most one outcome is right.
use Rattle.std.proofs.Common.{◌≡◌, ℕ, ◌<◌, ◌≤◌, List, Ok, Err, Result, sym, refl, ap, ◌∙◌, ap₂, arith}
use Rattle.events.specs.declared.event.Event.{Event}
use Rattle.order.specs.Cuts.{Cut}
use Rattle.order.specs.Sound.{Sound}
use Rattle.order.proofs.OneRun.{one_run}
use Rattle.monitor.specs.declared.runs.Verdict.{Verdict}
use Rattle.monitor.specs.Meaning.{Meaning, ran}
use Rattle.follow.specs.declared.no_next.NoNext.{NoNext}
use Rattle.follow.specs.declared.no_next.NoNext.TheVariants as because
use Rattle.follow.specs.Balance.{ThreadsBelow}
use Rattle.follow.specs.Answers.{Answers}
use Rattle.follow.proofs.Single.{one_answer}
use Rattle.replay.specs.declared.refusal.ReplayRefusal.{ReplayRefusal}
use Rattle.replay.specs.declared.refusal.ReplayRefusal.TheVariants as refusal
use Rattle.replay.specs.Outcome.{actions_of, Refused, Replayed, Outcome, OneOutcome}
use Rattle.replay.proofs.Along.{together, stops_thread, stops_done, stops_missing, stops_blocked}

module _ (es : List Event) (sound : Sound es) (n : ℕ) (few : ThreadsBelow es n) (ts : List ℕ) where
  abbrev Says : Result Event NoNext → ℕ → Cut → Type 0
  Says a t c = (t < n) × Answers es c t a

  abbrev Far : ℕ → Cut → Type 0
  Far t c = n ≤ t

  one : (a b : ReplayRefusal) → Refused es n ts a → Refused es n ts b → a ≡ b
  one refusal.Void b x y = absurd x
  one refusal.Length refusal.Void x y = absurd y
  one (refusal.Thread p) refusal.Void x y = absurd y
  one (refusal.Done p) refusal.Void x y = absurd y
  one (refusal.Missing p) refusal.Void x y = absurd y
  one (refusal.Blocked p) refusal.Void x y = absurd y
  one refusal.Length refusal.Length x y = refl
  one refusal.Length (refusal.Thread q) x y = absurd (x y.3.even)
  one refusal.Length (refusal.Done q) x y = absurd (x y.3.even)
  one refusal.Length (refusal.Missing q) x y = absurd (x y.3.even)
  one refusal.Length (refusal.Blocked q) x y = absurd (x y.3.even)
  one (refusal.Thread p) refusal.Length x y = absurd (y x.3.even)
  one (refusal.Done p) refusal.Length x y = absurd (y x.3.even)
  one (refusal.Missing p) refusal.Length x y = absurd (y x.3.even)
  one (refusal.Blocked p) refusal.Length x y = absurd (y x.3.even)
  one (refusal.Thread p) (refusal.Thread q) x y = ap refusal.Thread (together es sound ts p q Far Far (stops_thread es sound n few) (stops_thread es sound n few) x y).same
  one (refusal.Thread p) (refusal.Done q) x y =
      let z = together es sound ts p q Far (Says (Err because.Done)) (stops_thread es sound n few) (stops_done es sound n) x y in absurd (omega (arith, z.left, z.right.0))
  one (refusal.Thread p) (refusal.Missing q) x y =
      let z = together es sound ts p q Far (Says (Err because.Missing)) (stops_thread es sound n few) (stops_missing es sound n) x y in absurd (omega (arith, z.left, z.right.0))
  one (refusal.Thread p) (refusal.Blocked q) x y =
      let z = together es sound ts p q Far (Says (Err because.Blocked)) (stops_thread es sound n few) (stops_blocked es sound n) x y in absurd (omega (arith, z.left, z.right.0))
  one (refusal.Done p) (refusal.Thread q) x y =
      let z = together es sound ts p q (Says (Err because.Done)) Far (stops_done es sound n) (stops_thread es sound n few) x y in absurd (omega (arith, z.left.0, z.right))
  one (refusal.Missing p) (refusal.Thread q) x y =
      let z = together es sound ts p q (Says (Err because.Missing)) Far (stops_missing es sound n) (stops_thread es sound n few) x y in absurd (omega (arith, z.left.0, z.right))
  one (refusal.Blocked p) (refusal.Thread q) x y =
      let z = together es sound ts p q (Says (Err because.Blocked)) Far (stops_blocked es sound n) (stops_thread es sound n few) x y in absurd (omega (arith, z.left.0, z.right))
  one (refusal.Done p) (refusal.Done q) x y =
      ap refusal.Done (together es sound ts p q (Says (Err because.Done)) (Says (Err because.Done)) (stops_done es sound n) (stops_done es sound n) x y).same
  one (refusal.Missing p) (refusal.Missing q) x y =
      ap refusal.Missing (together es sound ts p q (Says (Err because.Missing)) (Says (Err because.Missing)) (stops_missing es sound n) (stops_missing es sound n) x y).same
  one (refusal.Blocked p) (refusal.Blocked q) x y =
      ap refusal.Blocked (together es sound ts p q (Says (Err because.Blocked)) (Says (Err because.Blocked)) (stops_blocked es sound n) (stops_blocked es sound n) x y).same
  one (refusal.Done p) (refusal.Missing q) x y =
      let z = together es sound ts p q (Says (Err because.Done)) (Says (Err because.Missing)) (stops_done es sound n) (stops_missing es sound n) x y in
      let w = one_answer es sound z.cut z.thread (Err because.Done) (Err because.Missing) z.left.1 z.right.1 in
      cc
  one (refusal.Done p) (refusal.Blocked q) x y =
      let z = together es sound ts p q (Says (Err because.Done)) (Says (Err because.Blocked)) (stops_done es sound n) (stops_blocked es sound n) x y in
      let w = one_answer es sound z.cut z.thread (Err because.Done) (Err because.Blocked) z.left.1 z.right.1 in
      cc
  one (refusal.Missing p) (refusal.Done q) x y =
      let z = together es sound ts p q (Says (Err because.Missing)) (Says (Err because.Done)) (stops_missing es sound n) (stops_done es sound n) x y in
      let w = one_answer es sound z.cut z.thread (Err because.Missing) (Err because.Done) z.left.1 z.right.1 in
      cc
  one (refusal.Missing p) (refusal.Blocked q) x y =
      let z = together es sound ts p q (Says (Err because.Missing)) (Says (Err because.Blocked)) (stops_missing es sound n) (stops_blocked es sound n) x y in
      let w = one_answer es sound z.cut z.thread (Err because.Missing) (Err because.Blocked) z.left.1 z.right.1 in
      cc
  one (refusal.Blocked p) (refusal.Done q) x y =
      let z = together es sound ts p q (Says (Err because.Blocked)) (Says (Err because.Done)) (stops_blocked es sound n) (stops_done es sound n) x y in
      let w = one_answer es sound z.cut z.thread (Err because.Blocked) (Err because.Done) z.left.1 z.right.1 in
      cc
  one (refusal.Blocked p) (refusal.Missing q) x y =
      let z = together es sound ts p q (Says (Err because.Blocked)) (Says (Err because.Missing)) (stops_blocked es sound n) (stops_missing es sound n) x y in
      let w = one_answer es sound z.cut z.thread (Err because.Blocked) (Err because.Missing) z.left.1 z.right.1 in
      cc

  module _ (m : Meaning) where
    same_verdict : (v w : Verdict) → Replayed m es ts v → Replayed m es ts w → v ≡ w
    same_verdict v w x y =
        let r = one_run es sound x.run y.run x.consistent y.consistent (x.threads ∙ sym y.threads) in
        let code : v.code ≡ w.code = x.ends ∙ ap (λ z. ran m (actions_of es z)) r ∙ sym y.ends in
        let told : v.violated ≡ w.violated = x.told ∙ ap m.bad code ∙ sym y.told in
        ap₂ (λ a b. record { code = a; violated = b }) code told

    either : (a b : Result Verdict ReplayRefusal) → Outcome m es n ts a → Outcome m es n ts b → a ≡ b
    either (Ok v) (Ok w) x y = ap Ok (same_verdict v w x y)
    either (Ok v) (Err b) x y = absurd (y.1 (x.run, x.consistent, x.threads))
    either (Err a) (Ok w) x y = absurd (x.1 (y.run, y.consistent, y.threads))
    either (Err a) (Err b) x y = ap Err (one a b x.0 y.0)

pub one_outcome : OneOutcome
one_outcome m es sound n few ts a b x y = either es sound n few ts m a b x y
