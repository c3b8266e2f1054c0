use Rattle.std.proofs.Common.{◌≡◌, ◌≤◌, refl, ap, ◌∙◌, arith}
use Rattle.std.proofs.lemmas.Bool.Decides.{Decides-at}
use Rattle.codes.specs.Codes.{bit_of}
use Rattle.automaton.specs.Moves.{stepped}
use Rattle.automaton.proofs.Decided.{decides_reaches, stepped_over}
use Rattle.automaton.proofs.Joined.{joined_at}
use Rattle.automaton.proofs.automaton.Automaton.next.Goals as goal

pub returns : goal.returns
returns c =
    let m = c.args.self.now in
    let n = m.states in
    let few : c.args.self.now.states ≤ 64 = omega (arith, m.few) in
    let is : c.below.result ≡ stepped c.args.self.now.states c.args.self.now.bad c.args.self.now.arcs.now c.args.code c.args.action =
    joined_at n m.bad m.arcs.now c.args.code c.args.action few
    c.turned-turn.result.left c.turned-turn.result.reached m.states c.below-here.result c.below.result
    refl c.below-here.ensures c.turned-turn.ensures.left c.turned-turn.ensures.reached c.below.ensures in
    record {
      code = is;
      rule = λ s h. Decides-at _ _ (ap (λ x. bit_of x s) is) (decides_reaches n m.bad m.arcs.now c.args.code c.args.action s h);
      cleared = λ s h. ap (λ x. bit_of x s) is ∙ stepped_over n m.bad m.arcs.now c.args.code c.args.action s h;
    }
