use Rattle.std.proofs.Common.{◌≡◌, ℕ, rules, length, take, Ok, Err, Result, sym, ap, subst}
use Rattle.trace.specs.Meaning.{opening_of, noted_of}
use Rattle.judge.specs.declared.refusal.JudgeRefusal.{JudgeRefusal}
use Rattle.judge.specs.declared.refusal.JudgeRefusal.TheVariants.{Pairs}
use Rattle.judge.specs.declared.verdict.Judgement.{Judgement}
use Rattle.judge.specs.Decided.{ends, DecidedBy}
use Rattle.judge.specs.Judging.{Judged}
use Rattle.judge.proofs.Granting.{no_reason, recorded_of, made_of, too_many, judged_as}
use Rattle.judge.proofs.Saying.{judged_says}
use Rattle.judge.proofs.judging.judge.Goals as goal

pub returns-in_err-pairs-clause-judged : goal.returns-in_err-pairs-clause-judged
returns-in_err-pairs-clause-judged g c =
    let t = c.args.trace.now in
    let m = g.M.Monitor.meaning c.args.monitor.now in
    let noted = c.events-events.ensures.noted in
    let made = made_of t noted c.events-events.result.now c.events-events.ensures.value c.make-tables.result c.make-tables.ensures in
    let found = c.explore.ensures in
    let full : c.explore.result ≡ Err (record {}) = search rules in
    let why : c.from_residual-in_err-pairs.result ≡ Err Pairs = search rules in
    subst (λ (r : Result Judgement JudgeRefusal). Judged (opening_of t) (noted_of t) m c.args.rows.now c.args.threads.now r c.explore.new.rows c.args.threads.now) (sym why)
    (too_many (opening_of t) (noted_of t) m (recorded_of t noted) c.make-tables.result made c.threads.result c.threads.ensures
    c.args.rows.now c.explore.new.rows c.args.threads.now (no_reason _ _ c.in_ok-granted.ensures) c.explore.result (found.within, found.holds, found.beyond) c.explore.auto.rows (record {}) full)

pub returns : goal.returns
returns g c =
    let t = c.args.trace.now in
    let m = g.M.Monitor.meaning c.args.monitor.now in
    let noted = c.events-events.ensures.noted in
    let made = made_of t noted c.events-events.result.now c.events-events.ensures.value c.make-tables.result c.make-tables.ensures in
    let found = c.explore.ensures in
    let pairs = c.in_ok-pairs.pairs in
    let list = c.args.threads.now in
    let list' = c.decide-verdict.new.threads in
    let all : c.explore.result ≡ Ok pairs = search rules in
    let decided = subst (λ (k : ℕ). DecidedBy (ends m k) (take pairs c.explore.new.rows) list c.decide-verdict.result list') (ap length c.events-events.ensures.value) c.decide-verdict.ensures in
    let judged =
    judged_as (opening_of t) (noted_of t) m (recorded_of t noted) c.make-tables.result made c.threads.result c.threads.ensures
    c.args.rows.now c.explore.new.rows list (no_reason _ _ c.in_ok-granted.ensures) c.explore.result (found.within, found.holds, found.beyond) c.explore.auto.rows pairs all
    c.decide-verdict.result list' decided in
    let says =
    judged_says (opening_of t) (noted_of t) m (recorded_of t noted) c.args.rows.now list (Ok (record { verdict = c.decide-verdict.result; pairs = pairs })) c.explore.new.rows list' judged in
    record { judged = judged; none = says.0; found = says.1 }
