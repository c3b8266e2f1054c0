-- The texts of a row of symbols.
use Rattle.std.proofs.Common.{◌≡◌, ℕ, T, ◌⊎◌, List, [], ◌∷◌, ◌++◌, map, sym, refl, ap, ◌∙◌, subst, inl, inr, append_assoc}
use Rattle.grammar.specs.Spelling.{Among, Digits, Num, Int, Term, Fits, shown, Row, AllInt, AllFit, tails, spaced, row_lines}
use Rattle.grammar.specs.Machine.{Has, Name, more, num, int, tail, vals, rest, form, Sym, t, n, lits, Prod, prods, nullable}

-- the texts of each name
abbrev pub lang : Name → List ℕ → Type 0
lang (more k) w = Digits k w
lang num w = Num w
lang int w = Int w
lang tail w = (vs : List (List ℕ)) × AllInt vs × (w ≡ tails vs)
lang vals w = (vs : List (List ℕ)) × AllInt vs × (w ≡ spaced vs)
lang rest w = (es : List Row) × (f : Term) × AllFit es × Fits 14 f × (w ≡ row_lines es f)
lang (form d) w = (f : Term) × Fits d f × (w ≡ shown f)

-- the words of a row of symbols
abbrev pub L : List Sym → List ℕ → Type 0
L [] w = w ≡ []
L (t c ∷ s) w = (b : ℕ) × (u : List ℕ) × (w ≡ b ∷ u) × Has c b × L s u
L (n x ∷ s) w = (u : List ℕ) × (v : List ℕ) × (w ≡ u ++ v) × lang x u × L s v

abbrev pub row : Prod → List Sym
row p = t p.0 ∷ p.1

-- by one of a list of productions
abbrev pub By : List Prod → List ℕ → Type 0
By ps w = (p : Prod) × Among p ps × L (row p) w

abbrev pub Unfolds : Name → List ℕ → Type 0
Unfolds x w = ((w ≡ []) × T (nullable x)) ⊎ By (prods x) w

-- membership
pub among_map : {A B : Type 0} (f : A → B) (x : A) (xs : List A) → Among x xs → Among (f x) (map f xs)
among_map f x [] h = h
among_map f x (y ∷ ys) (inl e) = inl (ap f e)
among_map f x (y ∷ ys) (inr h) = inr (among_map f x ys h)

pub among_unmap : {A B : Type 0} (f : A → B) (y : B) (xs : List A) → Among y (map f xs) → (x : A) × Among x xs × (y ≡ f x)
among_unmap f y [] h = absurd h
among_unmap f y (x ∷ xs) (inl e) = (x, inl refl, e)
among_unmap f y (x ∷ xs) (inr h) = let r = among_unmap f y xs h in (r.0, inr r.1, r.2)

pub among_left : {A : Type 0} (x : A) (xs ys : List A) → Among x xs → Among x (xs ++ ys)
among_left x [] ys h = absurd h
among_left x (y ∷ xs) ys (inl e) = inl e
among_left x (y ∷ xs) ys (inr h) = inr (among_left x xs ys h)

pub among_right : {A : Type 0} (x : A) (xs ys : List A) → Among x ys → Among x (xs ++ ys)
among_right x [] ys h = h
among_right x (y ∷ xs) ys h = inr (among_right x xs ys h)

pub among_cases : {A : Type 0} (x : A) (xs ys : List A) → Among x (xs ++ ys) → Among x xs ⊎ Among x ys
among_cases x [] ys h = inr h
among_cases x (y ∷ xs) ys (inl e) = inl (inl e)
among_cases x (y ∷ xs) ys (inr h) = elim (among_cases x xs ys h) [ inl k ↦ inl (inr k) | inr k ↦ inr k ]

-- rows
pub lits_to : (cs : List ℕ) (s : List Sym) (w : List ℕ) → L s w → L (lits cs s) (cs ++ w)
lits_to [] s w h = h
lits_to (c ∷ cs) s w h = (c, cs ++ w, refl, refl, lits_to cs s w h)

pub lits_from : (cs : List ℕ) (s : List Sym) (w : List ℕ) → L (lits cs s) w → (u : List ℕ) × (w ≡ cs ++ u) × L s u
lits_from [] s w h = (w, refl, h)
lits_from (c ∷ cs) s w (b, u, e, e', h) = let r = lits_from cs s u h in (r.0, (let f = r.1 in cc), r.2)

pub join : (q s : List Sym) (u v : List ℕ) → L q u → L s v → L (q ++ s) (u ++ v)
join [] s u v h k = subst (λ (x : List ℕ). L s (x ++ v)) (sym h) k
join (t c ∷ q) s u v (b, u', e, hb, h) k = (b, u' ++ v, ap (λ (x : List ℕ). x ++ v) e, hb, join q s u' v h k)
join (n x ∷ q) s u v (u1, u2, e, hx, h) k = (u1, u2 ++ v, ap (λ (y : List ℕ). y ++ v) e ∙ append_assoc u1 u2 v, hx, join q s u2 v h k)

pub split : (q s : List Sym) (w : List ℕ) → L (q ++ s) w → (u : List ℕ) × (v : List ℕ) × (w ≡ u ++ v) × L q u × L s v
split [] s w h = ([], w, refl, refl, h)
split (t c ∷ q) s w (b, u, e, hb, h) =
    let r = split q s u h in (b ∷ r.0, r.1, e ∙ ap (λ (x : List ℕ). b ∷ x) r.2, (b, r.0, refl, hb, r.3), r.4)
split (n x ∷ q) s w (u1, u2, e, hx, h) =
    let r = split q s u2 h in
    (u1 ++ r.0, r.1, e ∙ ap (λ (x : List ℕ). u1 ++ x) r.2 ∙ sym (append_assoc u1 r.0 r.1), (u1, r.0, refl, hx, r.3), r.4)
