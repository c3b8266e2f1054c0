-- The system that the tables of a noted list compute agrees with the system of its pairs on all pairs that can be reached.
use Rattle.std.proofs.Common.{◌≡◌, ℕ, ◌≤◌, Bool, List, get_or, Some, None, Ok, Err, Result, sym, refl, ap, ◌∙◌, inl, inr, arith}
use Rattle.std.proofs.lemmas.Bool.{cases_eq}
use Rattle.events.specs.declared.event.Event.{Event}
use Rattle.events.specs.Noting.{Opening}
use Rattle.order.specs.Trace.{blank, thread_at}
use Rattle.order.specs.Cuts.{Cut, Reach}
use Rattle.order.specs.Cuts.Reach.{start, onward}
use Rattle.order.specs.Reached.{cut_of}
use Rattle.order.proofs.Cuts.{advance_own, advance_other}
use Rattle.order.proofs.Noting.{within_of}
use Rattle.explore.specs.Rows.{Row}
use Rattle.explore.specs.Listing.{Holds}
use Rattle.follow.specs.declared.no_next.NoNext.{NoNext}
use Rattle.follow.specs.declared.tables.Tables.{Tables}
use Rattle.follow.specs.Answers.{Answers}
use Rattle.follow.specs.Looking.{next_in}
use Rattle.follow.specs.Made.{MadeOf}
use Rattle.follow.proofs.Single.{one_answer}
use Rattle.follow.proofs.Telling.{answers_right}
use Rattle.monitor.specs.Meaning.{Meaning}
use Rattle.pairs.specs.declared.pair.Pair.{Pair}
use Rattle.pairs.specs.Pairs.{pairs, moved}
use Rattle.pairs.specs.Agreement.{Agree}
use Rattle.pairs.specs.Judged.{Recorded}
use Rattle.pairs.proofs.Agreement.{agreement}
use Rattle.pairs.proofs.Steps.{given, next_moves, next-none}
use Rattle.pairs.proofs.Reaching.{goes_reach}
use Rattle.judge.specs.Tabled.{moved_as, tabled}

module _ (o : Opening) (es : List Event) (n : ℕ) (m : Meaning) (recorded : Recorded o es n) where
  -- a cut that can be reached has at most 255 events of a thread
  reach_small : {r : List ℕ} {c : Cut} → Reach es r c → (u : ℕ) → c u ≤ 255
  reach_small start u = omega arith
  reach_small (onward {r} {c} i reach may) u =
      elim (cases_eq (thread_at es i) u) [
        | inl e ↦
            let p = (within_of o es recorded.noted).places i may.noted in
            let q : c u ≡ c (thread_at es i) = ap c (sym e) in
            omega (arith, advance_own (thread_at es i) c u e, may.next)
        | inr d ↦ omega (arith, advance_other (thread_at es i) c u d, reach_small reach u)
      ]

  module _ (v : Tables) (made : MadeOf es v) where
    module _ (x : Pair) (t : ℕ) where
      -- an answer that is no event leads nowhere
      nowhere : (why : NoNext) → Answers es (cut_of x.cut) t (Err why) → (pairs es n m).next x t ≡ None
      nowhere why a =
          next-none es made.sound n m x t
          (λ i may own.
          let e = one_answer es made.sound (cut_of x.cut) t (Ok (get_or es i blank)) (Err why) (i, may, own, refl) a in
          cc)

      by_answer : (f : Result Event NoNext) → Answers es (cut_of x.cut) t f → moved_as m x t f ≡ (pairs es n m).next x t
      by_answer (Ok e) a = ap (λ (z : Event). Some (moved m x t z)) a.3 ∙ sym (next_moves es made.sound n m x t a.0 a.1 a.2)
      by_answer (Err why) a = sym (nowhere why a)

    agree : Agree (tabled v n m) (pairs es n m)
    agree = record {
      first = refl;
      labels = refl;
      next = λ p x a go l.
          let s = goes_reach es n m (given o es n recorded) p x go in
          by_answer x a (next_in v x.cut a)
          (answers_right es v made x.cut (s.0, s.1) (λ u k. omega (arith, reach_small s.1 u)) a);
    }

    pub holds_pairs : (c : ℕ) (rows : List (Row Pair)) (b : Bool) → Holds (tabled v n m) c rows b → Holds (pairs es n m) c rows b
    holds_pairs = agreement (tabled v n m) (pairs es n m) agree
