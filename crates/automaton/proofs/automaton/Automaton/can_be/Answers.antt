use Rattle.automaton.proofs.Ways.{answers}
use Rattle.automaton.proofs.automaton.Automaton.can_be.Goals as goal

pub returns-then-state-self-clause-answer : goal.returns-then-state-self-clause-answer
returns-then-state-self-clause-answer c =
    answers c.args.self.now c.args.actions.now c.args.state c.run-end.result.code c.has.result
    c.run-end.ensures.code c.if-state-self.true c.has.ensures
