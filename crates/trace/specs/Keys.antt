-- The test of a row's key decides: it is true exactly where the event stands at the place.
use Rattle.std.specs.Prelude.{◌≡◌, ℕ, Decides}
use Rattle.std.proofs.Common.{ap, ◌∙◌}
use Rattle.std.proofs.lemmas.Bool.Decides.{Decides-eqb, Decides-like, Decides-and}
use Rattle.events.specs.declared.event.Event.{Event}
use Rattle.trace.specs.declared.place.Place.{Place}
use Rattle.trace.specs.Places.{place_of, is_at}

pub decides_place : (p : Place) (e : Event) → Decides (is_at p e) (place_of e ≡ p)
decides_place p e =
    Decides-like (is_at p e) to from (Decides-and _ _ (Decides-eqb e.thread p.thread) (Decides-eqb e.place p.place))
  where
    to : (e.thread ≡ p.thread) × (e.place ≡ p.place) → place_of e ≡ p
    to h =
        ap (λ (t : ℕ). let q : Place = record { thread = t; place = e.place } in q) h.0
        ∙ ap (λ (n : ℕ). let q : Place = record { thread = p.thread; place = n } in q) h.1

    from : place_of e ≡ p → (e.thread ≡ p.thread) × (e.place ≡ p.place)
    from q = (ap (λ (x : Place). x.thread) q, ap (λ (x : Place). x.place) q)
