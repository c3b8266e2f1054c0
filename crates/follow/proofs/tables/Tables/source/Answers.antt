use Rattle.std.proofs.Common.{◌≡◌, ℕ, ap, ◌∙◌, subst}
use Rattle.order.specs.Trace.{thread_at, place_at}
use Rattle.order.specs.Maps.{Source}
use Rattle.follow.specs.Made.{standing_in, source_of}
use Rattle.follow.proofs.tables.Tables.source.Goals as goal

pub returns-then-thread-lt8-clause-feeds : goal.returns-then-thread-lt8-clause-feeds
returns-then-thread-lt8-clause-feeds c = λ es made i l a b.
    let at : ℕ → ℕ × ℕ = λ t. source_of (standing_in c.args.self.now t (place_at es i)).source in
    let here : at (thread_at es i) ≡ c.unwrap_or.result =
    ap at a ∙ ap (λ p. source_of (standing_in c.args.self.now c.args.thread p).source) b ∙ let found : source_of (standing_in c.args.self.now c.args.thread c.args.place).source ≡ c.unwrap_or.result = cc in found in
    subst (λ (z : ℕ × ℕ). Source es i z.0 z.1) here (made.sources i l)
