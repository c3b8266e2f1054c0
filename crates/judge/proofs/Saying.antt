-- What a judgement says of the runs.
use Rattle.std.proofs.Common.{◌≡◌, ℕ, true, List, length, take, drop, Some, None, Ok, Err, Option, Result, sym, refl, ap, ◌∙◌, arith}
use Rattle.std.proofs.lemmas.List.{length-map, take_at}
use Rattle.events.specs.declared.event.Event.{Event}
use Rattle.events.specs.First.{first_fit}
use Rattle.events.specs.Noting.{Opening}
use Rattle.order.specs.Trace.{thread_at}
use Rattle.order.proofs.Reaching.{run_length}
use Rattle.explore.specs.Rows.{Row}
use Rattle.explore.specs.Paths.{path}
use Rattle.monitor.specs.Meaning.{Meaning}
use Rattle.pairs.specs.declared.pair.Pair.{Pair}
use Rattle.pairs.specs.Judged.{Recorded, Judges}
use Rattle.pairs.proofs.Steps.{given}
use Rattle.pairs.proofs.Judged.{room_judged}
use Rattle.judge.specs.declared.refusal.JudgeRefusal.{JudgeRefusal}
use Rattle.judge.specs.declared.row.SearchRow.{SearchRow}
use Rattle.judge.specs.declared.verdict.Judgement.{Judgement}
use Rattle.judge.specs.declared.verdict.Verdict.{Verdict}
use Rattle.judge.specs.declared.verdict.Verdict.TheVariants as verdict
use Rattle.judge.specs.Viewed.{viewed}
use Rattle.judge.specs.Judging.{judge_tests, Answered, Granted, JudgedFor, Judged}
use Rattle.judge.specs.Said.{NoneBreaks, SaysNone, LeastBreak, SaysFound}
use Rattle.judge.proofs.Rows.{many_viewed}

-- what both clauses say of a verdict
pub record Said (es : List Event) (m : Meaning) (v : Verdict) (list : List ℕ) : Type 0 where
  pub never : v ≡ verdict.None → NoneBreaks es m
  pub none : NoneBreaks es m → v ≡ verdict.None
  pub found : v ≡ verdict.Found → LeastBreak es m list

module _ (es : List Event) (m : Meaning) (rows : List (Row Pair)) (k : ℕ) (all : length rows ≡ k) (judges : Judges es m rows) (list after : List ℕ) where
  said : (v : Verdict) → Answered es m rows k list v after → Said es m v after
  said verdict.None a = record {
    never = λ e. judges.never (λ j s l at h. a.0 j s (omega arith) at h);
    none = λ h. refl;
    found = λ e. cc;
  }
  said verdict.Found a =
      let least = judges.found a.0 a.1 a.2 in
      let many : length (path rows a.0) ≡ length es
      = ap length (sym least.lists) ∙ length-map least.run (thread_at es) ∙ run_length es least.run least.breaks.0.ordering in
      record {
        never = λ e. cc;
        none = λ h. absurd (h least.run least.breaks);
        found = λ e. record {
          run = least.run;
          breaks = least.breaks;
          listed = ap (take (length es)) a.3 ∙ take_at (path rows a.0) (drop (length es) list) (length es) many ∙ sym least.lists;
          others = least.others;
        };
      }

module _ (o : Opening) (es : List Event) (m : Meaning) (recorded : Recorded o es o.threads) (rows : List SearchRow) (list : List ℕ) where
  granted : (r : Result Judgement JudgeRefusal) (rows' : List SearchRow) (list' : List ℕ) → Granted o es m rows list r rows' list' → SaysNone es m r × SaysFound es m r list'
  granted (Ok j) rows' list' e =
      let told = room_judged es o.threads m (given o es o.threads recorded) (length rows) (viewed (take j.pairs rows')) true e.0.holds in
      let s = said es m (viewed (take j.pairs rows')) j.pairs (many_viewed (take j.pairs rows') ∙ e.0.many) (told.whole refl) list list' j.verdict e.1 in
      ((s.never, s.none), s.found)
  granted (Err why) rows' list' e = (tt, tt)

  by_reason : (q : Option JudgeRefusal) (r : Result Judgement JudgeRefusal) (rows' : List SearchRow) (list' : List ℕ) → JudgedFor q o es m rows list r rows' list'
      → SaysNone es m r × SaysFound es m r list'
  by_reason (Some why) (Ok j) rows' list' e = let h = e.0 in cc
  by_reason (Some why) (Err w) rows' list' e = (tt, tt)
  by_reason None r rows' list' e = granted r rows' list' e

  pub judged_says : (r : Result Judgement JudgeRefusal) (rows' : List SearchRow) (list' : List ℕ) → Judged o es m rows list r rows' list'
      → SaysNone es m r × SaysFound es m r list'
  judged_says = by_reason (first_fit (judge_tests o es (length rows) (length list)))
