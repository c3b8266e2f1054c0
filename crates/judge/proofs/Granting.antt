-- What an exploration leaves is judged.
use Rattle.std.proofs.Common.{◌≡◌, ℕ, ◌≤◌, Bool, true, false, ltb, List, [], ◌∷◌, length, take, drop, Some, None, Ok, Err, Option, Result, is_ok, sym, refl, subst, arith}
use Rattle.std.proofs.lemmas.List.{length-take-le, take_all}
use Rattle.std.proofs.lemmas.Bool.{ltb-false}
use Rattle.events.specs.declared.event.Event.{Event}
use Rattle.events.specs.First.{first_fit, told}
use Rattle.events.specs.Noting.{Opening, is_void, Noted}
use Rattle.trace.specs.declared.Trace.{Trace}
use Rattle.trace.specs.Meaning.{opening_of, noted_of}
use Rattle.trace.proofs.Bounds.{opening_few}
use Rattle.rows.specs.declared.list.Full.{Full}
use Rattle.explore.specs.System.{System}
use Rattle.explore.specs.Listing.{Holds}
use Rattle.explore.specs.Tables.{listed_in}
use Rattle.follow.specs.declared.tables.Tables.{Tables}
use Rattle.follow.specs.Made.{MadeOf, Small}
use Rattle.monitor.specs.Meaning.{Meaning}
use Rattle.pairs.specs.declared.pair.Pair.{Pair}
use Rattle.pairs.specs.Pairs.{pairs}
use Rattle.pairs.specs.Judged.{Recorded}
use Rattle.pairs.proofs.Steps.{given}
use Rattle.judge.specs.declared.refusal.JudgeRefusal.{JudgeRefusal}
use Rattle.judge.specs.declared.refusal.JudgeRefusal.TheVariants as refusal
use Rattle.judge.specs.declared.row.SearchRow.{SearchRow}
use Rattle.judge.specs.declared.verdict.Verdict.{Verdict}
use Rattle.judge.specs.Viewed.{viewed}
use Rattle.judge.specs.Tabled.{tabled}
use Rattle.judge.specs.Decided.{ends, DecidedBy}
use Rattle.judge.specs.Judging.{judge_tests, JudgedFor, Judged}
use Rattle.judge.proofs.Agreeing.{holds_pairs}
use Rattle.judge.proofs.Deciding.{answered}

-- a check that refuses nothing was given no reason
pub no_reason : (why : Option JudgeRefusal) (x : Unit {0}) → Ok x ≡ told why → why ≡ None
no_reason (Some why) x h = cc
no_reason None x h = refl

not_last : (a b c : Bool) → first_fit ((a, refusal.Void) ∷ (b, refusal.Rows) ∷ (c, refusal.Threads) ∷ []) ≡ None → c ≡ false
not_last true b c h = cc
not_last false true c h = cc
not_last false false true h = cc
not_last false false false h = refl

-- What exploring a system answers and leaves: as many rows as it says are listed, or all rows and more is to come.
abbrev pub Explored : System Pair → List SearchRow → Result ℕ Full → List SearchRow → Type 0
Explored S rows r rows' =
    (listed_in (length rows) r ≤ length rows)
    × Holds S (length rows) (viewed (take (listed_in (length rows) r) rows')) (is_ok r)
    × (drop (listed_in (length rows) r) rows' ≡ drop (listed_in (length rows) r) rows)

module _ (o : Opening) (es : List Event) (m : Meaning) (recorded : Recorded o es o.threads) (v : Tables) (made : MadeOf es v) (k : ℕ) (threads : k ≡ o.threads)
    (rows rows' : List SearchRow) (list : List ℕ) (granted : first_fit (judge_tests o es (length rows) (length list)) ≡ None)
    (r : Result ℕ Full) (explored : Explored (tabled v k m) rows r rows') (kept : length rows' ≡ length rows) where
  holds : (n : ℕ) (b : Bool) → Holds (tabled v k m) (length rows) (viewed (take n rows')) b → Holds (pairs es o.threads m) (length rows) (viewed (take n rows')) b
  holds n b h = holds_pairs o es o.threads m recorded v made (length rows) (viewed (take n rows')) b
      (subst (λ i. Holds (tabled v i m) (length rows) (viewed (take n rows')) b) threads h)

  pub too_many : (full : Full) → r ≡ Err full → Judged o es m rows list (Err refusal.Pairs) rows' list
  too_many full e =
      let x = subst (λ r. Explored (tabled v k m) rows r rows') e explored in
      subst (λ (q : Option JudgeRefusal). JudgedFor q o es m rows list (Err refusal.Pairs) rows' list) (sym granted)
      (subst (λ (xs : List SearchRow). Holds (pairs es o.threads m) (length rows) (viewed xs) false) (take_all (length rows) rows' (omega arith)) (holds (length rows) false x.1), refl)

  pub judged_as : (n : ℕ) → r ≡ Ok n → (w : Verdict) (list' : List ℕ) → DecidedBy (ends m (length es)) (take n rows') list w list'
      → Judged o es m rows list (Ok (record { verdict = w; pairs = n })) rows' list'
  judged_as n e w list' d =
      let x = subst (λ r. Explored (tabled v k m) rows r rows') e explored in
      let h = holds n true x.1 in
      let many : length (take n rows') ≡ n = length-take-le n rows' (omega (arith, x.0)) in
      let enough : length es ≤ length list = ltb-false (length list) (length es) (not_last (is_void o) (ltb 65536 (length rows)) (ltb (length list) (length es)) granted) in
      subst (λ (q : Option JudgeRefusal). JudgedFor q o es m rows list (Ok (record { verdict = w; pairs = n })) rows' list') (sym granted) (
        record { within = x.0; holds = h; many = many; beyond = x.2 },
        answered es o.threads m (given o es o.threads recorded) (length rows) (take n rows') true h list list' enough w d n many,
      )

-- What a trace gives: its list is noted, of few threads and variables.
module _ (t : Trace) (noted : Noted (opening_of t) (noted_of t)) where
  pub recorded_of : Recorded (opening_of t) (noted_of t) (opening_of t).threads
  recorded_of = record { noted = noted; few = (opening_few t).0; threads = refl }

  pub small_of : Small (opening_of t)
  small_of = opening_few t

  module _ (seen : List Event) (is : seen ≡ noted_of t) where
    -- the tables that are made of its events, as they are read, are those of its list
    pub made_of : (v : Tables) → ((o : Opening) → Small o → Noted o seen → MadeOf seen v) → MadeOf (noted_of t) v
    made_of v make = subst (λ (es : List Event). MadeOf es v) is (make (opening_of t) small_of (subst (Noted (opening_of t)) (sym is) noted))
