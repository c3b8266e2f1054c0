-- Of each text one shape is right.
use Rattle.std.proofs.Common.{◌≡◌, ℕ, suc, ◌<◌, List, [], ◌++◌, take, drop, sym, refl, ap, ◌∙◌, subst, append_assoc, append-nil, arith}
use native.Mathlib.Decide.{dec_lt}
use Rattle.std.proofs.lemmas.List.{take-append-drop, take-take}
use Rattle.grammar.specs.Recording.{Shape, whole, wrong, early, Front, Shaped}

front_less : (Q : List ℕ → Type 0) (k : ℕ) (w : List ℕ) → Front Q w → Front Q (take k w)
front_less Q k w (u, q) =
    (drop k w ++ u, subst Q (sym (sym (append_assoc (take k w) (drop k w) u) ∙ ap (λ (x : List ℕ). x ++ u) (take-append-drop k w))) q)

front_of : (Q : List ℕ → Type 0) (w : List ℕ) → Q w → Front Q w
front_of Q w q = ([], subst Q (sym (append-nil w)) q)

before : (Q : List ℕ → Type 0) (k l : ℕ) (w : List ℕ) → Shaped Q w (wrong k) → Shaped Q w (wrong l) → k < l → ⊥
before Q k l w (h, f, g) (h', f', g') lt = g (subst (Front Q) (take-take (suc k) l w lt) (front_less Q (suc k) (take l w) f'))

pub one_shape : (Q : List ℕ → Type 0) (w : List ℕ) (a b : Shape) → Shaped Q w a → Shaped Q w b → a ≡ b
one_shape Q w whole whole r s = refl
one_shape Q w whole (wrong l) r (h, f, g) = absurd (g (front_less Q (suc l) w (front_of Q w r)))
one_shape Q w whole early r (f, g) = absurd (g r)
one_shape Q w (wrong k) whole (h, f, g) s = absurd (g (front_less Q (suc k) w (front_of Q w s)))
one_shape Q w (wrong k) (wrong l) r s =
    elim (dec_lt k l) [
      | yes lt ↦ absurd (before Q k l w r s lt)
      | no n ↦ elim (dec_lt l k) [ yes gt ↦ absurd (before Q l k w s r gt) | no m ↦ let e : k ≡ l = omega arith in ap wrong e ]
    ]
one_shape Q w (wrong k) early (h, f, g) (f', g') = absurd (g (front_less Q (suc k) w f'))
one_shape Q w early whole (f, g) s = absurd (g s)
one_shape Q w early (wrong l) (f, g) (h, f', g') = absurd (g' (front_less Q (suc l) w f))
one_shape Q w early early r s = refl
