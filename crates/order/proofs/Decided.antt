-- The tests decide what feeds what, groups, and what is open.
use Rattle.std.proofs.Common.{ℕ, ◌<◌, ◌≤◌, Bool, not, ◌&&◌, ltb, leb, ◌⊎◌, List, length, Decides, sym, refl, subst, inl, inr}
use Rattle.std.proofs.lemmas.Bool.{leb-true, le-leb}
use Rattle.std.proofs.lemmas.Bool.Decides.{Decides-eqb, Decides-ltb, Decides-like, Decides-not, Decides-and, Decides-or, Decides-below_and, Decides-below_or}
use Rattle.events.specs.declared.event.Event.{Event}
use Rattle.order.specs.Trace.{thread_at, place_at, kind_at, subject_at, Is, Reads, Writes, Acquires, Releases, Object, Of}
use Rattle.order.specs.Trace.Object.{variable, lock}
use Rattle.order.specs.Before.{NoneBetween, Feeds, Before}
use Rattle.order.specs.Before.Feeds.{value, hold}
use Rattle.order.specs.Before.Before.{in_thread, fed, chain}
use Rattle.order.specs.Groups.{Group, Leads, Member, Touches}
use Rattle.order.specs.Groups.Group.{led, starting}
use Rattle.order.specs.Cuts.{Cut, In, Has, Lacks, Open}
use Rattle.order.specs.Tests.{every, some, is, none_between, of_variable, of_lock, feeds_at, feeds, leads, member, shares_at, touches, in_cut, has, lacks, is_open}

module _ (p : ℕ → Bool) (P : ℕ → Type 0) (each : (k : ℕ) → Decides (p k) (P k)) where
  pub decides_every : (n : ℕ) → Decides (every p n) ((k : ℕ) → k < n → P k)
  decides_every n = Decides-below_and p P (every p) each refl (λ _. refl) n

  pub decides_some : (n : ℕ) → Decides (some p n) ((k : ℕ) × (k < n) × P k)
  decides_some n = Decides-below_or p P (some p) each refl (λ _. refl) n

pub decides_leb : (a b : ℕ) → Decides (leb a b) (a ≤ b)
decides_leb a b = (leb-true a b, le-leb a b)

-- a test that, when the first passes, denies the second
pub decides_unless : {P Q : Type 0} (x y : Bool) → Decides x P → Decides y Q → Decides (not (x && y)) (P → Q → ⊥)
decides_unless {P} {Q} x y d e =
    Decides-like (not (x && y)) (λ f p q. f (p, q)) (λ f h. f h.0 h.1) (Decides-not (x && y) (Decides-and x y d e))

module _ (es : List Event) where
  pub feeds_noted : (e f : ℕ) → Feeds es e f → (e < length es) × (f < length es)
  feeds_noted e f (value x w r l n) = (w.noted, r.noted)
  feeds_noted e f (hold x w r l n) = (w.noted, r.noted)

  pub before_noted : {e f : ℕ} → Before es e f → (e < length es) × (f < length es)
  before_noted (in_thread a b t p) = (a, b)
  before_noted (fed {e = e} {f = f} h) = feeds_noted e f h
  before_noted (chain p q) = ((before_noted p).0, (before_noted q).1)

  pub of_noted : (o : Object) (i : ℕ) → Of es o i → i < length es
  of_noted (variable x) i (inl h) = h.noted
  of_noted (variable x) i (inr h) = h.noted
  of_noted (lock x) i (inl h) = h.noted
  of_noted (lock x) i (inr h) = h.noted

  leads_noted : (e : ℕ) → Leads es e → e < length es
  leads_noted e (x, inl w) = w.noted
  leads_noted e (x, inr w) = w.noted

  pub led_noted : (e i : ℕ) → Member es (led e) i → e < length es
  led_noted e i (inl h) = leads_noted e h.0
  led_noted e i (inr h) = (feeds_noted e i h).0

  pub decides_is : (k s i : ℕ) → Decides (is es k s i) (Is es k s i)
  decides_is k s i =
      Decides-like (is es k s i)
      (λ h. record { noted = h.0; kind = h.1.0; subject = h.1.1 })
      (λ h. (h.noted, (h.kind, h.subject)))
      (Decides-and _ _ (Decides-ltb i (length es)) (Decides-and _ _ (Decides-eqb (kind_at es i) k) (Decides-eqb (subject_at es i) s)))

  pub decides_none_between : (e f : ℕ) (p : ℕ → Bool) (P : ℕ → Type 0) → ((k : ℕ) → Decides (p k) (P k)) → Decides (none_between e f p) (NoneBetween e f P)
  decides_none_between e f p P d =
      Decides-like (none_between e f p) (λ h k a b. h k b a) (λ h k b a. h k a b)
      (decides_every (λ k. not (ltb e k && p k)) (λ k. e < k → P k → ⊥) (λ k. decides_unless (ltb e k) (p k) (Decides-ltb e k) (d k)) f)

  decides_variable : (x i : ℕ) → Decides (of_variable es x i) (Of es (variable x) i)
  decides_variable x i = Decides-or _ _ (decides_is 1 x i) (decides_is 2 x i)

  pub decides_lock : (l i : ℕ) → Decides (of_lock es l i) (Of es (lock l) i)
  decides_lock l i = Decides-or _ _ (decides_is 3 l i) (decides_is 4 l i)

  abbrev FeedsAt : ℕ → ℕ → ℕ → Type 0
  FeedsAt s e f =
      (Writes es s e × (Reads es s f × ((e < f) × NoneBetween e f (Writes es s))))
      ⊎ (Acquires es s e × (Releases es s f × ((e < f) × NoneBetween e f (Of es (lock s)))))

  decides_feeds_at : (s e f : ℕ) → Decides (feeds_at es s e f) (FeedsAt s e f)
  decides_feeds_at s e f =
      Decides-or _ _
      (Decides-and _ _ (decides_is 2 s e) (Decides-and _ _ (decides_is 1 s f) (Decides-and _ _ (Decides-ltb e f)
      (decides_none_between e f (is es 2 s) (Writes es s) (decides_is 2 s)))))
      (Decides-and _ _ (decides_is 3 s e) (Decides-and _ _ (decides_is 4 s f) (Decides-and _ _ (Decides-ltb e f)
      (decides_none_between e f (of_lock es s) (Of es (lock s)) (decides_lock s)))))

  feeds_from : (s e f : ℕ) → FeedsAt s e f → Feeds es e f
  feeds_from s e f (inl h) = value s h.0 h.1.0 h.1.1.0 h.1.1.1
  feeds_from s e f (inr h) = hold s h.0 h.1.0 h.1.1.0 h.1.1.1

  feeds_to : (e f : ℕ) → Feeds es e f → FeedsAt (subject_at es e) e f
  feeds_to e f (value x w r l n) = subst (λ s. FeedsAt s e f) (sym w.subject) (inl (w, (r, (l, n))))
  feeds_to e f (hold x w r l n) = subst (λ s. FeedsAt s e f) (sym w.subject) (inr (w, (r, (l, n))))

  pub decides_feeds : (e f : ℕ) → Decides (feeds es e f) (Feeds es e f)
  decides_feeds e f =
      Decides-like (feeds es e f) (feeds_from (subject_at es e) e f) (feeds_to e f) (decides_feeds_at (subject_at es e) e f)

  leads_to : (e x : ℕ) → Writes es x e ⊎ Acquires es x e → Writes es (subject_at es e) e ⊎ Acquires es (subject_at es e) e
  leads_to e x (inl w) = subst (λ s. Writes es s e ⊎ Acquires es s e) (sym w.subject) (inl w)
  leads_to e x (inr w) = subst (λ s. Writes es s e ⊎ Acquires es s e) (sym w.subject) (inr w)

  decides_leads : (e : ℕ) → Decides (leads es e) (Leads es e)
  decides_leads e =
      Decides-like (leads es e) (λ h. (subject_at es e, h)) (λ h. leads_to e h.0 h.1)
      (Decides-or _ _ (decides_is 2 (subject_at es e) e) (decides_is 3 (subject_at es e) e))

  pub decides_member : (g : Group) (i : ℕ) → Decides (member es g i) (Member es g i)
  decides_member (led e) i = Decides-or _ _ (Decides-and _ _ (decides_leads e) (Decides-eqb i e)) (decides_feeds e i)
  decides_member (starting x) i =
      Decides-and _ _ (decides_is 1 x i)
      (decides_every (λ k. not (is es 2 x k)) (λ k. Writes es x k → ⊥) (λ k. Decides-not (is es 2 x k) (decides_is 2 x k)) i)

  abbrev SharesAt : ℕ → ℕ → ℕ → Type 0
  SharesAt s e i = (Of es (variable s) e × Of es (variable s) i) ⊎ (Of es (lock s) e × Of es (lock s) i)

  shares_from : (s e i : ℕ) → SharesAt s e i → Touches es (led e) i
  shares_from s e i (inl h) = (variable s, h.0, h.1)
  shares_from s e i (inr h) = (lock s, h.0, h.1)

  shares_to : (e i : ℕ) (o : Object) → Of es o e → Of es o i → SharesAt (subject_at es e) e i
  shares_to e i (variable x) (inl h) k = subst (λ s. SharesAt s e i) (sym h.subject) (inl (inl h, k))
  shares_to e i (variable x) (inr h) k = subst (λ s. SharesAt s e i) (sym h.subject) (inl (inr h, k))
  shares_to e i (lock x) (inl h) k = subst (λ s. SharesAt s e i) (sym h.subject) (inr (inl h, k))
  shares_to e i (lock x) (inr h) k = subst (λ s. SharesAt s e i) (sym h.subject) (inr (inr h, k))

  pub decides_touches : (g : Group) (i : ℕ) → Decides (touches es g i) (Touches es g i)
  decides_touches (led e) i =
      let s : ℕ = subject_at es e in
      Decides-like (shares_at es s e i) (shares_from s e i) (λ h. shares_to e i h.0 h.1 h.2)
      (Decides-or _ _ (Decides-and _ _ (decides_variable s e) (decides_variable s i)) (Decides-and _ _ (decides_lock s e) (decides_lock s i)))
  decides_touches (starting x) i = decides_variable x i

  pub decides_in : (c : Cut) (i : ℕ) → Decides (in_cut es c i) (In es c i)
  decides_in c i = decides_leb (place_at es i) (c (thread_at es i))

  decides_has : (c : Cut) (g : Group) → Decides (has es c g) (Has es c g)
  decides_has c g =
      Decides-like (has es c g) (λ h. (h.0, h.1, h.2.0, h.2.1)) (λ h. (h.0, h.1, (h.2, h.3)))
      (decides_some (λ i. member es g i && in_cut es c i) (λ i. Member es g i × In es c i)
      (λ i. Decides-and (member es g i) (in_cut es c i) (decides_member g i) (decides_in c i)) (length es))

  decides_lacks : (c : Cut) (g : Group) → Decides (lacks es c g) (Lacks es c g)
  decides_lacks c g =
      Decides-like (lacks es c g) (λ h. (h.0, h.1, h.2.0, h.2.1)) (λ h. (h.0, h.1, (h.2, h.3)))
      (decides_some (λ i. member es g i && not (in_cut es c i)) (λ i. Member es g i × (In es c i → ⊥))
      (λ i. Decides-and (member es g i) (not (in_cut es c i)) (decides_member g i) (Decides-not (in_cut es c i) (decides_in c i))) (length es))

  pub decides_open : (c : Cut) (g : Group) → Decides (is_open es c g) (Open es c g)
  decides_open c (led e) = Decides-and _ _ (decides_has c (led e)) (decides_lacks c (led e))
  decides_open c (starting x) = decides_lacks c (starting x)
