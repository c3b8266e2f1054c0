-- The brackets of a text, gone through from the left.
use Rattle.std.proofs.Common.{◌≡◌, ℕ, zero, suc, ◌+◌, ◌^◌, ◌<◌, ◌≤◌, Bool, true, false, cond, ltb, leb, List, [], ◌∷◌, ◌++◌, map, length, get_or, drop, ℤ, pos, Some, None, Ok, Err, decimal, Option, sym, refl, ap, ◌∙◌, subst, ⊎_elim, append_assoc, arith, length-append}
use lib.Signed.{mag}
use Rattle.std.proofs.lemmas.List.{append-nil, at_drop_more, at_drop_all, length-map, get_or-map, get_or_append_left, get_or_push}
use Rattle.std.proofs.lemmas.Bool.{cases_lt, eq-eqb, ne_eqb}
use Rattle.std.proofs.lemmas.Bool.Decides.{nat_tests}
use Rattle.grammar.specs.Recording.{Formula, eq, lt, gt, mark, by, neg, before, once, always, and, or, implies, since}
use Rattle.grammar.specs.Recording.{Piece, opening, closing, blank, newline, word, small, wide, All, Nests, bytes, flat, formula}
use Rattle.text.specs.declared.place.Place.{Place}
use Rattle.text.specs.declared.fault.TextFault.{TextFault}
use Rattle.text.specs.declared.fault.TextFault.TheVariants.{OutOfRange}
use Rattle.text.specs.Places.{byte_place}
use Rattle.text.specs.Ranges.{InRange, FirstOut, if_fits}
use Rattle.formula.specs.declared.word.Word.{Word}
use Rattle.formula.specs.declared.word.Word.TheVariants.{Eq as EqW, Lt as LtW, Gt as GtW, Mark as MarkW, By as ByW, Not as NotW, And as AndW, Or as OrW, Implies as ImpliesW, Before as BeforeW, Once as OnceW, Always as AlwaysW, Since as SinceW}
use Rattle.formula.specs.Reading.{openings, word_of, named, compared, paired, filled_one, filled_two, head_at, ReadsWord}
use Rattle.formula.specs.Spelling.{Spelt, Spells}
use Rattle.formula.specs.Truth.{subformulas, size}
use Rattle.formula.specs.Words.{word_at, no_word}
use Rattle.formula.proofs.Found.{in_range, first_out, head_out, Spot, walk, place, of, Stands, found_at}
use Rattle.formula.proofs.Parts.{parts_size}

-- the first piece out of range
in_range_lem : (p : Piece) → in_range p ≡ true → InRange p
in_range_lem opening h = tt
in_range_lem closing h = tt
in_range_lem blank h = tt
in_range_lem newline h = tt
in_range_lem (word w) h = tt
in_range_lem (small n) h = grind (arith, nat_tests)
in_range_lem (wide z) h = grind (arith, nat_tests)

out_range : (p : Piece) → in_range p ≡ false → InRange p → ⊥
out_range opening h i = let z : ◌≡◌ {A = ℕ} 0 1 = cc in omega arith
out_range closing h i = let z : ◌≡◌ {A = ℕ} 0 1 = cc in omega arith
out_range blank h i = let z : ◌≡◌ {A = ℕ} 0 1 = cc in omega arith
out_range newline h i = let z : ◌≡◌ {A = ℕ} 0 1 = cc in omega arith
out_range (word w) h i = let z : ◌≡◌ {A = ℕ} 0 1 = cc in omega arith
out_range (small n) h i = grind (arith, nat_tests)
out_range (wide z) h i = grind (arith, nat_tests)

pub first-none : (ps : List Piece) (k : ℕ) → first_out k ps ≡ None → All InRange ps
first-none [] k h = tt
first-none (p ∷ ps) k h = go (λ g. first-none ps (k + length (bytes p)) g) (in_range p) refl h
  where
    go : (first_out (k + length (bytes p)) ps ≡ None → All InRange ps) → (b : Bool) → in_range p ≡ b → cond b (first_out (k + length (bytes p)) ps) (Some k) ≡ None → All InRange (p ∷ ps)
    go later true e g = (in_range_lem p e, later g)
    go later false e g = let z : ◌≡◌ {A = ℕ} 0 1 = cc in absurd (omega arith)

pub first_some : (ps : List Piece) (k m : ℕ) → first_out k ps ≡ Some m → (d : ℕ) × FirstOut ps d × (m ≡ k + d)
first_some [] k m h = let z : ◌≡◌ {A = ℕ} 0 1 = cc in absurd (omega arith)
first_some (p ∷ ps) k m h = go (λ g. first_some ps (k + length (bytes p)) m g) (in_range p) refl h
  where
    go : (first_out (k + length (bytes p)) ps ≡ Some m → (d : ℕ) × FirstOut ps d × (m ≡ k + length (bytes p) + d)) → (b : Bool) → in_range p ≡ b
        → cond b (first_out (k + length (bytes p)) ps) (Some k) ≡ Some m → (d : ℕ) × FirstOut (p ∷ ps) d × (m ≡ k + d)
    go later true e g =
        let q = later g in
        let o = q.1 in (
          length (bytes p) + q.0,
          (p ∷ o.0, o.1, o.2, ap (λ xs. p ∷ xs) o.3, (in_range_lem p e, o.4), o.5, omega (arith, o.6, length-append (bytes p) (flat o.0))),
          omega (arith, q.2),
        )
    go later false e g =
        let same : k ≡ m = cc in
        (0, ([], p, ps, refl, tt, out_range p e, refl), omega arith)

-- the fault stands at m
abbrev At : List ℕ → ℕ → (Option ℕ → Option ℕ) → TextFault → Type 0
At t m out e = ((z : Option ℕ) → out z ≡ Some m) × (e ≡ OutOfRange (byte_place t m))

-- a bracket behind which a word was read
abbrev pub Fine : List ℕ → ℕ → Type 0
Fine t k = (w : Word) × ReadsWord t k (Ok w)

-- a word that was read, and one that was not
module _ (t : List ℕ) where
  pair_ok : (v : Word) (b d : Bool) (x : ℕ) (c : ℤ) (p q : Place) (w : Word) → Ok w ≡ filled_two v (paired (if_fits b x p) (if_fits d c q))
      → (w ≡ compared v x c) × ((z m n : Option ℕ) → cond b (cond d z n) m ≡ z)
  pair_ok v true true x c p q w h = (cc, λ z m n. refl)
  pair_ok v true false x c p q w h = let z : ◌≡◌ {A = ℕ} 0 1 = cc in absurd (omega arith)
  pair_ok v false d x c p q w h = let z : ◌≡◌ {A = ℕ} 0 1 = cc in absurd (omega arith)

  name_ok : (v : Word) (b : Bool) (n : ℕ) (p : Place) (w : Word) → Ok w ≡ filled_one v (if_fits b n p) → (w ≡ named v n) × ((z m : Option ℕ) → cond b z m ≡ z)
  name_ok v true n p w h = (cc, λ z m. refl)
  name_ok v false n p w h = let z : ◌≡◌ {A = ℕ} 0 1 = cc in absurd (omega arith)

  pair_err : (v : Word) (b d : Bool) (x : ℕ) (c : ℤ) (k l : ℕ) (e : TextFault) → Err e ≡ filled_two v (paired (if_fits b x (byte_place t k)) (if_fits d c (byte_place t l)))
      → (m : ℕ) × At t m (λ z. cond b (cond d z (Some l)) (Some k)) e
  pair_err v true true x c k l e h = let z : ◌≡◌ {A = ℕ} 0 1 = cc in absurd (omega arith)
  pair_err v true false x c k l e h = (l, ((λ z. refl), cc))
  pair_err v false d x c k l e h = (k, ((λ z. refl), cc))

  name_err : (v : Word) (b : Bool) (n k : ℕ) (e : TextFault) → Err e ≡ filled_one v (if_fits b n (byte_place t k)) → (m : ℕ) × At t m (λ z. cond b z (Some k)) e
  name_err v true n k e h = let z : ◌≡◌ {A = ℕ} 0 1 = cc in absurd (omega arith)
  name_err v false n k e h = (k, ((λ z. refl), cc))

  never : {A : Type 0} (e : TextFault) (w : Word) → Err e ≡ Ok w → A
  never e w h = let z : ◌≡◌ {A = ℕ} 0 1 = cc in absurd (omega arith)

  head_ok : (f : Formula) (k : ℕ) (w : Word) → Ok w ≡ head_at t k f → (w ≡ word_of f) × ((z : Option ℕ) → head_out k f z ≡ z)
  head_ok (eq x c) k w h = let r = pair_ok (EqW 0 (pos 0)) (leb x 255) (ltb (mag c) (2 ^ 31)) x c _ _ w h in (r.0, λ z. r.1 z _ _)
  head_ok (lt x c) k w h = let r = pair_ok (LtW 0 (pos 0)) (leb x 255) (ltb (mag c) (2 ^ 31)) x c _ _ w h in (r.0, λ z. r.1 z _ _)
  head_ok (gt x c) k w h = let r = pair_ok (GtW 0 (pos 0)) (leb x 255) (ltb (mag c) (2 ^ 31)) x c _ _ w h in (r.0, λ z. r.1 z _ _)
  head_ok (mark m) k w h = let r = name_ok (MarkW 0) (leb m 255) m _ w h in (r.0, λ z. r.1 z _)
  head_ok (by m) k w h = let r = name_ok (ByW 0) (leb m 255) m _ w h in (r.0, λ z. r.1 z _)
  head_ok (neg f) k w h = (cc, λ z. refl)
  head_ok (before f) k w h = (cc, λ z. refl)
  head_ok (once f) k w h = (cc, λ z. refl)
  head_ok (always f) k w h = (cc, λ z. refl)
  head_ok (and f g) k w h = (cc, λ z. refl)
  head_ok (or f g) k w h = (cc, λ z. refl)
  head_ok (implies f g) k w h = (cc, λ z. refl)
  head_ok (since f g) k w h = (cc, λ z. refl)

  head_err : (f : Formula) (k : ℕ) (e : TextFault) → Err e ≡ head_at t k f → (m : ℕ) × At t m (head_out k f) e
  head_err (eq x c) k e h = pair_err (EqW 0 (pos 0)) (leb x 255) (ltb (mag c) (2 ^ 31)) x c (k + 4) (k + 4 + length (decimal x) + 1) e h
  head_err (lt x c) k e h = pair_err (LtW 0 (pos 0)) (leb x 255) (ltb (mag c) (2 ^ 31)) x c (k + 4) (k + 4 + length (decimal x) + 1) e h
  head_err (gt x c) k e h = pair_err (GtW 0 (pos 0)) (leb x 255) (ltb (mag c) (2 ^ 31)) x c (k + 4) (k + 4 + length (decimal x) + 1) e h
  head_err (mark m) k e h = name_err (MarkW 0) (leb m 255) m (k + 6) e h
  head_err (by m) k e h = name_err (ByW 0) (leb m 255) m (k + 4) e h
  head_err (neg f) k e h = never e NotW h
  head_err (before f) k e h = never e BeforeW h
  head_err (once f) k e h = never e OnceW h
  head_err (always f) k e h = never e AlwaysW h
  head_err (and f g) k e h = never e AndW h
  head_err (or f g) k e h = never e OrW h
  head_err (implies f g) k e h = never e ImpliesW h
  head_err (since f g) k e h = never e SinceW h

  -- spots that are all fine, or fine up to the last
  fine_walk : (ss : List Spot) → All (Stands t) ss → All (Fine t) (map place ss) → (z : Option ℕ) → walk ss z ≡ z
  fine_walk [] st fine z = refl
  fine_walk (s ∷ ss) st fine z =
      let w = fine.0.0 in
      let told = head_ok s.1 s.0 w (fine.0.1 s.1 st.0.1.0 st.0.0 st.0.1.1) in
      told.1 (walk ss z) ∙ fine_walk ss st.1 fine.1 z

  fault_walk : (pre : List ℕ) (ss : List Spot) (k : ℕ) (rest : List ℕ) (e : TextFault) → map place ss ≡ pre ++ k ∷ rest → All (Stands t) ss → All (Fine t) pre
      → ReadsWord t k (Err e) → (z : Option ℕ) → (m : ℕ) × (walk ss z ≡ Some m) × (e ≡ OutOfRange (byte_place t m))
  fault_walk [] [] k rest e same st fine bad z = let w : ◌≡◌ {A = ℕ} 0 1 = cc in absurd (omega arith)
  fault_walk [] (s ∷ ss) k rest e same st fine bad z =
      let here : k ≡ s.0 = cc in
      let read = subst (λ j. ReadsWord t j (Err e)) here bad s.1 st.0.1.0 st.0.0 st.0.1.1 in
      let told = head_err s.1 s.0 e read in
      (told.0, told.1.0 (walk ss z), told.1.1)
  fault_walk (p ∷ pre) [] k rest e same st fine bad z = let w : ◌≡◌ {A = ℕ} 0 1 = cc in absurd (omega arith)
  fault_walk (p ∷ pre) (s ∷ ss) k rest e same st fine bad z =
      let here : p ≡ s.0 = cc in
      let more : map place ss ≡ pre ++ k ∷ rest = cc in
      let good = subst (Fine t) here fine.0 in
      let told = head_ok s.1 s.0 good.0 (good.1 s.1 st.0.1.0 st.0.0 st.0.1.1) in
      let later = fault_walk pre ss k rest e more st.1 fine.1 bad z in
      (later.0, told.1 (walk ss z) ∙ later.1, later.2)

-- the state of the scan ahead of byte i, with the words that are kept
pub record Scanned (t : List ℕ) (i : ℕ) (ws : List Word) : Type 0 where
  pub pre : List ℕ
  pub split : openings 0 t ≡ pre ++ openings i (drop i t)
  pub room : length ws ≤ 61
  pub some : length ws ≤ length pre
  pub all : length ws < 61 → length ws ≡ length pre
  pub fine : All (Fine t) pre
  pub read : (j : ℕ) → j < length ws → ReadsWord t (get_or pre j 0) (Ok (word_at ws j))

all_push : {A : Type 0} (P : A → Type 0) (xs : List A) (x : A) → All P xs → P x → All P (xs ++ x ∷ [])
all_push P [] x a h = (h, tt)
all_push P (y ∷ ys) x a h = (a.0, all_push P ys x a.1 h)

pub all-at : {A : Type 0} (P : A → Type 0) (xs : List A) (j : ℕ) (d : A) → All P xs → j < length xs → P (get_or xs j d)
all-at P [] j d a h = absurd (omega arith)
all-at P (x ∷ xs) zero d a h = a.0
all-at P (x ∷ xs) (suc j) d a h = all-at P xs j d a.1 (omega arith)

module _ (t : List ℕ) (i : ℕ) (ws : List Word) (h : i < length t) (s : Scanned t i ws) where
  pub skipped : (get_or t i 0 ≡ 40 → ⊥) → Scanned t (i + 1) ws
  skipped other =
      let later = openings (i + 1) (drop (i + 1) t) in
      record {
        pre = s.pre;
        split = s.split ∙ ap (λ os. s.pre ++ os) (at_drop_more (openings i) t i 0 h ∙ ap (λ b. cond b (i ∷ later) later) (ne_eqb (get_or t i 0) 40 other));
        room = s.room;
        some = s.some;
        all = s.all;
        fine = s.fine;
        read = s.read;
      }

  module _ (here : get_or t i 0 ≡ 40) where
    pub split_here : openings 0 t ≡ s.pre ++ i ∷ openings (i + 1) (drop (i + 1) t)
    split_here =
        let later = openings (i + 1) (drop (i + 1) t) in
        s.split ∙ ap (λ os. s.pre ++ os) (at_drop_more (openings i) t i 0 h ∙ ap (λ b. cond b (i ∷ later) later) (eq-eqb (get_or t i 0) 40 here))

    split_more : openings 0 t ≡ (s.pre ++ i ∷ []) ++ openings (i + 1) (drop (i + 1) t)
    split_more = split_here ∙ sym (append_assoc s.pre (i ∷ []) (openings (i + 1) (drop (i + 1) t)))

    module _ (w : Word) (reads : ReadsWord t i (Ok w)) where
      longer : length (s.pre ++ i ∷ []) ≡ length s.pre + 1
      longer = omega (arith, length-append s.pre (i ∷ []))

      -- an earlier bracket
      earlier : (j : ℕ) → j < length ws → get_or s.pre j 0 ≡ get_or (s.pre ++ i ∷ []) j 0
      earlier j l = sym (get_or_append_left s.pre (i ∷ []) 0 j (omega (arith, s.some)))

      pub passed : 61 ≤ length ws → Scanned t (i + 1) ws
      passed full = record {
        pre = s.pre ++ i ∷ [];
        split = split_more;
        room = s.room;
        some = omega (arith, s.some, longer);
        all = λ l. absurd (omega arith);
        fine = all_push (Fine t) s.pre i s.fine (w, reads);
        read = λ j l. subst (λ k. ReadsWord t k (Ok (word_at ws j))) (earlier j l) (s.read j l);
      }

      pub stored : length ws < 61 → Scanned t (i + 1) (ws ++ w ∷ [])
      stored l61 =
          let long : length (ws ++ w ∷ []) ≡ length ws + 1 = omega (arith, length-append ws (w ∷ [])) in
          record {
            pre = s.pre ++ i ∷ [];
            split = split_more;
            room = omega arith;
            some = omega (arith, s.some, longer);
            all = λ l. omega (arith, s.all l61, longer);
            fine = all_push (Fine t) s.pre i s.fine (w, reads);
            read = λ j l. ⊎_elim
                (λ less.
                let row : word_at ws j ≡ word_at (ws ++ w ∷ []) j = sym (get_or_append_left ws (w ∷ []) no_word j less) in
                subst (λ k. ReadsWord t k (Ok (word_at (ws ++ w ∷ []) j))) (earlier j less) (subst (λ v. ReadsWord t (get_or s.pre j 0) (Ok v)) row (s.read j less)))
                (λ more.
                let top : j ≡ length ws = omega arith in
                let row : w ≡ word_at (ws ++ w ∷ []) j = sym (get_or_push ws w no_word j (sym top)) in
                let last : i ≡ get_or (s.pre ++ i ∷ []) j 0 = sym (get_or_push s.pre i 0 j (sym (top ∙ s.all l61))) in
                subst (λ k. ReadsWord t k (Ok (word_at (ws ++ w ∷ []) j))) last (subst (λ v. ReadsWord t i (Ok v)) row reads))
                (cases_lt j (length ws));
          }

      -- the word is kept if there is room
      pub pushed : (vs : List Word) → (length ws < 61 → vs ≡ ws ++ w ∷ []) → (61 ≤ length ws → vs ≡ ws) → Scanned t (i + 1) vs
      pushed vs room full =
          ⊎_elim (λ l. subst (Scanned t (i + 1)) (sym (room l)) (stored l)) (λ l. subst (Scanned t (i + 1)) (sym (full l)) (passed l)) (cases_lt (length ws) 61)

    -- a number out of range
    pub faulty : (e : TextFault) → ReadsWord t i (Err e) → (f : Formula) → Nests 15 f → t ≡ flat (formula f []) → Spells t f (Err e)
    faulty e bad f n spelt =
        let whole = found_at t 15 f n 0 [] spelt in
        let ends : openings whole.end (drop whole.end t) ≡ [] = ap (openings whole.end) whole.rest in
        let same : map place whole.spots ≡ s.pre ++ i ∷ openings (i + 1) (drop (i + 1) t) =
        sym (append-nil (map place whole.spots)) ∙ ap (λ os. map place whole.spots ++ os) (sym ends) ∙ sym whole.found ∙ split_here in
        let told = fault_walk t s.pre whole.spots i (openings (i + 1) (drop (i + 1) t)) e same whole.stand s.fine bad None in
        let first = first_some (formula f []) 0 told.0 (whole.out ∙ told.1) in
        let at_first : told.0 ≡ first.0 = omega (arith, first.2) in
        (first.0, first.1, told.2 ∙ ap (λ m. OutOfRange (byte_place t m)) at_first)

-- at the end of the text
pub finished : (t : List ℕ) (i : ℕ) (ws : List Word) → length t ≤ i → Scanned t i ws → (f : Formula) → Nests 15 f → t ≡ flat (formula f []) → Spelt f ws
finished t i ws h s f n spelt =
    let whole = found_at t 15 f n 0 [] spelt in
    let ends : openings whole.end (drop whole.end t) ≡ [] = ap (openings whole.end) whole.rest in
    let pre_all : openings 0 t ≡ s.pre = s.split ∙ ap (λ os. s.pre ++ os) (at_drop_all (openings i) t i h) ∙ append-nil s.pre in
    let same : map place whole.spots ≡ s.pre =
    sym (append-nil (map place whole.spots)) ∙ ap (λ os. map place whole.spots ++ os) (sym ends) ∙ sym whole.found ∙ pre_all in
    let count : length s.pre ≡ length whole.spots = sym (ap length same) ∙ length-map whole.spots place in
    let sizes : length whole.spots ≡ size f = sym (length-map whole.spots of) ∙ ap length whole.names ∙ parts_size f in
    let walked : first_out 0 (formula f []) ≡ None = whole.out ∙ fine_walk t whole.spots whole.stand (subst (All (Fine t)) (sym same) s.fine) None in
    record {
      fits = first-none (formula f []) 0 walked;
      room = s.room;
      some = omega (arith, s.some, count, sizes);
      all = λ l. omega (arith, s.all l, count, sizes);
      words = λ j l.
          let low : j < length whole.spots = omega (arith, s.some, count) in
          let spot : Spot = get_or whole.spots j (0, f) in
          let st : Stands t spot = all-at (Stands t) whole.spots j (0, f) whole.stand low in
          let stands : get_or s.pre j 0 ≡ spot.0 = ap (λ os. get_or os j 0) (sym same) ∙ get_or-map place whole.spots j (0, f) 0 low in
          let is : spot.1 ≡ get_or (subformulas f) j f = sym (get_or-map of whole.spots j (0, f) f low) ∙ ap (λ fs. get_or fs j f) whole.names in
          let reads = subst (λ k. ReadsWord t k (Ok (word_at ws j))) stands (s.read j l) in
          (head_ok t spot.1 spot.0 (word_at ws j) (reads spot.1 st.1.0 st.0 st.1.1)).0 ∙ ap word_of is;
    }

pub begin : (t : List ℕ) → Scanned t 0 []
begin t = record {
  pre = [];
  split = refl;
  room = omega arith;
  some = omega arith;
  all = λ _. refl;
  fine = tt;
  read = λ j h. absurd (omega arith);
}
