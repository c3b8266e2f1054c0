-- One answer is right.
use Rattle.std.proofs.Common.{◌≡◌, ℕ, ◌<◌, true, false, ◌⊎◌, List, ◌++◌, length, take, drop, Some, None, Ok, Err, Option, Result, sym, refl, ap, ◌∙◌, subst, ap₂, inl, inr, arith}
use Rattle.std.proofs.lemmas.List.{take-append-drop}
use Rattle.std.proofs.lemmas.Bool.{cases_order, true≢false}
use Rattle.events.specs.declared.event.Event.{Event}
use Rattle.events.specs.First.{first_fit}
use Rattle.events.specs.Noting.{Opening}
use Rattle.explore.specs.System.{System}
use Rattle.explore.specs.Rows.{Row}
use Rattle.explore.specs.Listing.{Listing, Holds}
use Rattle.explore.specs.Paths.{path}
use Rattle.explore.specs.Rounds.{computed}
use Rattle.explore.proofs.Fronts.{room}
use Rattle.explore.proofs.Rounds.{exists}
use Rattle.monitor.specs.Meaning.{Meaning}
use Rattle.pairs.specs.declared.pair.Pair.{Pair}
use Rattle.pairs.specs.Pairs.{pairs, same}
use Rattle.pairs.specs.Judged.{Recorded, FirstHit}
use Rattle.pairs.proofs.Steps.{given}
use Rattle.pairs.proofs.Levels.{levelled, told}
use Rattle.judge.specs.declared.refusal.JudgeRefusal.{JudgeRefusal}
use Rattle.judge.specs.declared.refusal.JudgeRefusal.TheVariants as refusal
use Rattle.judge.specs.declared.row.SearchRow.{SearchRow}
use Rattle.judge.specs.declared.verdict.Judgement.{Judgement}
use Rattle.judge.specs.declared.verdict.Verdict.{Verdict}
use Rattle.judge.specs.declared.verdict.Verdict.TheVariants as verdict
use Rattle.judge.specs.Viewed.{viewed}
use Rattle.judge.specs.Judging.{judge_tests, Listed, Answered, Granted, JudgedFor}
use Rattle.judge.specs.Laws.{JudgedOnce}
use Rattle.judge.proofs.Rows.{many_viewed, same_rows}

-- the verdict on rows
module _ (es : List Event) (m : Meaning) (rows : List (Row Pair)) (k : ℕ) (all : length rows ≡ k) (list : List ℕ) where
  not_ahead : (i j : ℕ) (x y : Row Pair) → FirstHit es m rows i x → FirstHit es m rows j y → i < j → ⊥
  not_ahead i j x y f g l = g.ahead i x l f.at f.hits

  one_hit : (i j : ℕ) (x y : Row Pair) → FirstHit es m rows i x → FirstHit es m rows j y → i ≡ j
  one_hit i j x y f g =
      elim (cases_order i j) [
        | inl e ↦ e
        | inr h ↦ elim h [ inl l ↦ absurd (not_ahead i j x y f g l) | inr l ↦ absurd (not_ahead j i y x g f l) ]
      ]

  one_verdict : (v w : Verdict) (p q : List ℕ) → Answered es m rows k list v p → Answered es m rows k list w q → (v ≡ w) × (p ≡ q)
  one_verdict verdict.None verdict.None p q a b = (refl, a.1 ∙ sym b.1)
  one_verdict verdict.None verdict.Found p q a b = absurd (a.0 b.0 b.1 (omega (arith, b.2.at.0)) b.2.at b.2.hits)
  one_verdict verdict.Found verdict.None p q a b = absurd (b.0 a.0 a.1 (omega (arith, a.2.at.0)) a.2.at a.2.hits)
  one_verdict verdict.Found verdict.Found p q a b =
      (refl, a.3 ∙ ap (λ j. path rows j ++ drop (length es) list) (one_hit a.0 b.0 a.1 b.1 a.2 b.2) ∙ sym b.3)

module _ (o : Opening) (es : List Event) (m : Meaning) (recorded : Recorded o es o.threads) (rows : List SearchRow) (list : List ℕ) where
  abbrev S : System Pair
  S = pairs es o.threads m

  abbrev all : List (Row Pair)
  all = computed S same (length es)

  listing : Listing S all
  listing = exists S same (length es) (levelled es o.threads m (given o es o.threads recorded)) told

  -- the first n rows are those of the listing
  front : (rows' : List SearchRow) (n : ℕ) → Listed o es m rows rows' n → viewed (take n rows') ≡ take (length rows) all
  front rows' n l = (room S (length rows) (viewed (take n rows')) all true listing l.holds).0

  same_front : (xs ys : List SearchRow) (i j : ℕ) → Listed o es m rows xs i → Listed o es m rows ys j → take i xs ≡ take j ys
  same_front xs ys i j a b = same_rows (take i xs) (take j ys) (front xs i a ∙ sym (front ys j b))

  same_count : (xs ys : List SearchRow) (i j : ℕ) → Listed o es m rows xs i → Listed o es m rows ys j → i ≡ j
  same_count xs ys i j a b = sym a.many ∙ ap length (same_front xs ys i j a b) ∙ b.many

  same_all : (xs ys : List SearchRow) (i j : ℕ) → Listed o es m rows xs i → Listed o es m rows ys j → xs ≡ ys
  same_all xs ys i j a b =
      sym (take-append-drop i xs)
      ∙ ap (λ (zs : List SearchRow). zs ++ drop i xs) (same_front xs ys i j a b)
      ∙ ap (λ (zs : List SearchRow). take j ys ++ zs) (a.beyond ∙ ap (λ z. drop z rows) (same_count xs ys i j a b) ∙ sym b.beyond)
      ∙ take-append-drop j ys

  -- all pairs, or more than the rows hold
  abbrev Whole : Result Judgement JudgeRefusal → List SearchRow → List ℕ → Type 0
  Whole r rows' list' =
      (j : Judgement) × (r ≡ Ok j) × Listed o es m rows rows' j.pairs × Answered es m (viewed (take j.pairs rows')) j.pairs list j.verdict list'

  abbrev Part : Result Judgement JudgeRefusal → List SearchRow → List ℕ → Type 0
  Part r rows' list' = (r ≡ Err refusal.Pairs) × Holds S (length rows) (viewed rows') false × (list' ≡ list)

  ways : (r : Result Judgement JudgeRefusal) (rows' : List SearchRow) (list' : List ℕ) → Granted o es m rows list r rows' list' → Whole r rows' list' ⊎ Part r rows' list'
  ways (Ok j) rows' list' e = inl (j, refl, e.0, e.1)
  ways (Err refusal.Pairs) rows' list' e = inr (refl, e.0, e.1)
  ways (Err refusal.Void) rows' list' e = absurd e
  ways (Err refusal.Rows) rows' list' e = absurd e
  ways (Err refusal.Threads) rows' list' e = absurd e

  -- rows cannot hold all pairs and be too few
  not_both : (r s : Result Judgement JudgeRefusal) (xs ys : List SearchRow) (p q : List ℕ) → Whole r xs p → Part s ys q → ⊥
  not_both r s xs ys p q a b =
      true≢false
      ((room S (length rows) (viewed (take a.0.pairs xs)) all true listing a.2.holds).1
      ∙ sym (room S (length rows) (viewed ys) all false listing b.1).1)

  module _ (r s : Result Judgement JudgeRefusal) (xs ys : List SearchRow) (p q : List ℕ) where
    whole_once : Whole r xs p → Whole s ys q → (r ≡ s) × (xs ≡ ys) × (p ≡ q)
    whole_once a b =
        let i : ℕ = a.0.pairs in
        let j : ℕ = b.0.pairs in
        let count : i ≡ j = same_count xs ys i j a.2 b.2 in
        let moved = subst (λ (k : ℕ). Answered es m (viewed (take j ys)) k list a.0.verdict p) count
        (subst (λ (zs : List SearchRow). Answered es m (viewed zs) i list a.0.verdict p) (same_front xs ys i j a.2 b.2) a.3) in
        let one = one_verdict es m (viewed (take j ys)) j (many_viewed (take j ys) ∙ b.2.many) list a.0.verdict b.0.verdict p q moved b.3 in (
          a.1 ∙ ap₂ (λ (v : Verdict) (k : ℕ). Ok (record { verdict = v; pairs = k })) one.0 count ∙ sym b.1,
          same_all xs ys i j a.2 b.2,
          one.1,
        )

    part_once : Part r xs p → Part s ys q → (r ≡ s) × (xs ≡ ys) × (p ≡ q)
    part_once a b = (
      a.0 ∙ sym b.0,
      same_rows xs ys ((room S (length rows) (viewed xs) all false listing a.1).0 ∙ sym (room S (length rows) (viewed ys) all false listing b.1).0),
      a.2 ∙ sym b.2,
    )

    by_ways : Whole r xs p ⊎ Part r xs p → Whole s ys q ⊎ Part s ys q → (r ≡ s) × (xs ≡ ys) × (p ≡ q)
    by_ways (inl a) (inl b) = whole_once a b
    by_ways (inl a) (inr b) = absurd (not_both r s xs ys p q a b)
    by_ways (inr a) (inl b) = absurd (not_both s r ys xs q p b a)
    by_ways (inr a) (inr b) = part_once a b

    by_reason : (why : Option JudgeRefusal) → JudgedFor why o es m rows list r xs p → JudgedFor why o es m rows list s ys q → (r ≡ s) × (xs ≡ ys) × (p ≡ q)
    by_reason (Some why) a b = (a.0 ∙ sym b.0, a.1 ∙ sym b.1, a.2 ∙ sym b.2)
    by_reason None a b = by_ways (ways r xs p a) (ways s ys q b)

pub judged_once : JudgedOnce
judged_once o es m noted few rows list r s xs ys p q =
    by_reason o es m (record { noted = noted; few = few; threads = refl }) rows list r s xs ys p q (first_fit (judge_tests o es (length rows) (length list)))
