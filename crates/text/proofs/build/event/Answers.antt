use Rattle.std.proofs.Common.{◌≡◌, ℕ, ◌≤◌, List, ◌∷◌, pos, sym, refl, ap, ◌∙◌, to_z-of_z, w32, SFits, rules}
use Rattle.events.specs.Kinds.{kind_number}
use Rattle.events.specs.declared.kind.Kind.{Kind}
use Rattle.events.specs.declared.event.Action.{Action}
use Rattle.grammar.specs.Recording.{Piece, closing, ending, newline}
use Rattle.std.proofs.lemmas.Result.{err_from_is_err_and}
use Rattle.text.specs.Standing.{trim}
use Rattle.text.proofs.Meeting.{meet}
use Rattle.text.proofs.Taking.{action_is, next_moved, outside_err}
use Rattle.text.proofs.build.event.Goals as goal

ending_is : (k : Kind) (a : Action) (more : List Piece) → kind_number k ≡ a.kind → ending a.kind a.value more ≡ ending (kind_number k) a.value more
ending_is k a more e = ap (λ (i : ℕ). ending i a.value more) (sym e)

pub returns-in_err-thread-clause-taken : goal.returns-in_err-thread-clause-taken
returns-in_err-thread-clause-taken c whole ps rest a stand line =
    let p = err_from_is_err_and c.from_residual.result c.from_residual.ensures.1 in
    outside_err whole (newline ∷ rest) c.number.new.reader a p.1 p.2 (c.in_err-thread.ensures.taken whole ps _ a.thread refl stand (ap trim line.pieces))

pub returns-in_err-subject-clause-taken : goal.returns-in_err-subject-clause-taken
returns-in_err-subject-clause-taken c whole ps rest a stand line =
    let p = err_from_is_err_and c.from_residual-in_err-subject.result c.from_residual-in_err-subject.ensures.1 in
    let one = c.in_ok-thread.ensures.taken whole ps _ a.thread refl stand (ap trim line.pieces) in
    outside_err whole (newline ∷ rest) c.number-2.new.reader a p.1 p.2 (c.in_err-subject.ensures.taken whole _ _ a.subject refl one.1 refl)

pub returns-in_err-value-clause-taken : goal.returns-in_err-value-clause-taken
returns-in_err-value-clause-taken c whole ps rest a stand line =
    let p = err_from_is_err_and c.from_residual-in_err-value.result c.from_residual-in_err-value.ensures.1 in
    let one = c.in_ok-thread.ensures.taken whole ps _ a.thread refl stand (ap trim line.pieces) in
    let two = c.in_ok-subject.ensures.taken whole _ _ a.subject refl one.1 refl in
    let lock : 3 ≤ kind_number c.args.kind → a.value ≡ pos 0 = λ h. line.lock (rw line.kind at h) in
    outside_err whole (newline ∷ rest) c.value.new.reader a p.1 p.2 (c.in_err-value.ensures.taken whole _ _ a.value two.1 (ending_is c.args.kind a (closing ∷ newline ∷ rest) line.kind) lock)

pub returns-clause-taken : goal.returns-clause-taken
returns-clause-taken c whole ps rest a stand line =
    let one = c.in_ok-thread.ensures.taken whole ps _ a.thread refl stand (ap trim line.pieces) in
    let two = c.in_ok-subject.ensures.taken whole _ _ a.subject refl one.1 refl in
    let lock : 3 ≤ kind_number c.args.kind → a.value ≡ pos 0 = λ h. line.lock (rw line.kind at h) in
    let fits : SFits w32 c.in_ok-value.value = search rules in
    let three = c.in_ok-value.ensures.taken whole _ _ a.value two.1 (ending_is c.args.kind a (closing ∷ newline ∷ rest) line.kind) lock in
    (action_is a _ _ _ _ one.0 (c.from.ensures ∙ line.kind) two.0 (to_z-of_z fits ∙ three.0), (meet three.1 refl (next_moved c.next.ensures.text c.next.ensures.token)).goes tt)
