use Rattle.std.proofs.Common.{ℕ, ◌<◌, length, arith}
use Rattle.order.specs.Trace.{thread_at}
use Rattle.order.proofs.laws.following.Goals as goal
use Rattle.order.proofs.Noting.{sound_of, within_of}
use Rattle.order.proofs.Fair.{fair}
use Rattle.order.proofs.Following.{not_yet, missing_unfed, unfed_missing, may_follow_lem, source_unfed, source_begun, begun_source, plain_alone, blocked_write, blocked_acquire, write_blocked, acquire_blocked}
use Rattle.order.proofs.Waits.{waits_moves}

pub returns : goal.returns
returns c = record {
  rules = λ o es n r cut reach t i next.
      let sound = sound_of o es n in
      let fine = fair es sound reach in
      let out = not_yet es cut t i next in
      record {
        may = (
          may_follow_lem es cut t i next,
          λ m. ((λ h. h.3 (m.ready h.0 h.1 h.2)), (λ h. m.alone h.0 h.1 h.2 h.3)),
        );
        missing = (missing_unfed es cut t i next fine.closed, unfed_missing es cut t i next);
        plain = plain_alone es sound cut fine i next.noted out;
        write = λ x w. (blocked_write es sound cut fine i next.noted out x w, λ j. write_blocked es sound cut fine i next.noted out x j w);
        acquire = λ x w. (blocked_acquire es sound cut fine i next.noted out x w, λ j. acquire_blocked es sound cut fine i next.noted out x j w);
      };
  sources = λ o es n few cut i t p s.
      let sound = sound_of o es n in
      let below : (k : ℕ) → k < length es → thread_at es k < 255 = λ k l. omega (arith, (within_of o es n).threads k l) in
      record {
        unfed = source_unfed es sound below cut i t p s;
        begun = λ x k. (source_begun es sound below cut i t p s x k, begun_source es sound below cut i t p s);
      };
  waits = λ o es n. waits_moves es (sound_of o es n);
}
