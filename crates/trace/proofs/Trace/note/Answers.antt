use Rattle.std.proofs.Common.{Option, sym, refl, ap}
use Rattle.std.proofs.lemmas.Result.{err_from_is_err_and}
use Rattle.events.specs.declared.refusal.Refusal.{Refusal}
use Rattle.events.specs.Noting.{answer, extended}
use Rattle.trace.specs.declared.state.State.{State}
use Rattle.trace.specs.Fields.{opening_in}
use Rattle.trace.specs.Meaning.{noted_of, rows_after}
use Rattle.trace.proofs.Notes.{left_all, left_none, note_refuses, note_gives}
use Rattle.trace.proofs.Trace.note.Goals as goal

pub returns-in_err-place : goal.returns-in_err-place
returns-in_err-place c =
    let p = err_from_is_err_and c.from_residual.result c.from_residual.ensures.1 in
    let t = c.args.self.now in
    let a = c.args.action in
    let h = c.in_err-place.ensures in
    let why = note_refuses t a _ _ _ c.len.ensures c.capacity.ensures h.says in
    rw (p.1, p.2)
    record {
      says = sym (ap (λ (o : Option Refusal). answer o (noted_of t) a) why);
      noted = sym (ap (λ (o : Option Refusal). extended o (noted_of t) a) why);
      opening = ap (λ (s : State). opening_in s t.rows) h.next;
      rows = sym (ap (λ (o : Option Refusal). rows_after o t a) why);
      kept = left_all _ _ _ _ why h.next refl;
      loan = refl;
    }

pub invariant_of-self-2 : goal.invariant_of-self-2
invariant_of-self-2 c =
    let h = c.in_ok-place.ensures in
    let e = c.push.ensures in
    let g = note_gives c.args.self.now c.args.action _ _ _ _ c.step.new.self c.push.new.self c.len.ensures c.capacity.ensures h.says h.next c.at-event.ensures e.lent e.listed in
    let k = g.keeps in
    record {
      sizes = (k.values_size, k.locks_size, k.counts_size);
      values = k.valued;
      locks = k.locked;
      counts = k.counted;
      noted = k.accepted_all;
    }

pub returns : goal.returns
returns c =
    let h = c.in_ok-place.ensures in
    let e = c.push.ensures in
    let g = note_gives c.args.self.now c.args.action _ _ _ _ c.step.new.self c.push.new.self c.len.ensures c.capacity.ensures h.says h.next c.at-event.ensures e.lent e.listed in
    record {
      says = g.says;
      noted = g.noted_is;
      opening = g.opening_is;
      rows = g.rows_are;
      kept = left_none _ _ _ g.not_refused_lem;
      loan = e.loan;
    }
