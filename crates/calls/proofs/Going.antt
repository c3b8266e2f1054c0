-- A list of calls that is performed in place, from its front on.
use Rattle.std.proofs.Common.{◌≡◌, ℕ, ◌+◌, ◌<◌, ◌≤◌, List, [], ◌∷◌, ◌++◌, map, length, get_or, take, drop, set, sym, ap, ◌∙◌, subst, arith}
use Rattle.std.proofs.Math.ListN.{get_or-map}
use Rattle.std.proofs.lemmas.List.{drop-drop, drop-set-lt, drop_more, take_more_set, take_all, map-set, map_push, map_more, set-get_or, length-drop}
use Rattle.events.specs.declared.event.Event.{Event}
use Rattle.events.specs.Noting.{Opening}
use Rattle.calls.specs.Acts.{Act, Outcome, Gives, after, Performed}
use Rattle.calls.proofs.Rising.{pushed}

-- i calls of cs were performed, and the calls are ds now; f is what a call is handed, g what it gave, and h what of it stays
pub record Going {X H : Type 0} (f : X → Act) (g : X → Outcome) (h : X → H) (o : Opening) (before : List Event) (cs ds : List X) (i : ℕ) (p : Opening)
    (es : List Event) : Type 0 where
  pub rest : drop i ds ≡ drop i cs
  pub done : Performed o before (map f (take i cs)) (map g (take i ds)) es
  pub keeps : map h ds ≡ map h cs
  pub opens : p ≡ o

module _ {X H : Type 0} (f : X → Act) (g : X → Outcome) (h : X → H) (o : Opening) (before : List Event) (cs ds : List X) (i : ℕ) (p : Opening) (es : List Event)
    (w : Going f g h o before cs ds i p es) where
  pub going_more : (b e : X) (q : Opening) (fs : List Event) → i < length ds
      → Gives p es (f (get_or ds i b)) (g e) → h e ≡ h (get_or ds i b) → fs ≡ after p es (f (get_or ds i b)) → q ≡ p
      → Going f g h o before cs (set ds i e) (i + 1) q fs
  going_more b e q fs lt gives stays notes opens =
      let d : X = get_or ds i b in
      let within : i < length cs = omega (arith, ap length w.rest, length-drop i ds, length-drop i cs) in
      let one : i < i + 1 = omega arith in
      let tail : drop (i + 1) ds ≡ drop (i + 1) cs = sym (drop-drop 1 i ds) ∙ ap (drop 1) w.rest ∙ drop-drop 1 i cs in
      let heads : get_or ds i b ∷ drop (i + 1) ds ≡ get_or cs i b ∷ drop (i + 1) cs = sym (drop_more ds i b lt) ∙ w.rest ∙ drop_more cs i b within in
      let head : get_or cs i b ≡ d = cc in
      let acts : map f (take (i + 1) cs) ≡ map f (take i cs) ++ f d ∷ []
      = map_more f cs i b within ∙ ap (λ (x : X). map f (take i cs) ++ f x ∷ []) head in
      let outs : map g (take (i + 1) (set ds i e)) ≡ map g (take i ds) ++ g e ∷ []
      = ap (map g) (take_more_set ds i e lt) ∙ map_push g (take i ds) e in
      let next : fs ≡ after o es (f d) = notes ∙ ap (λ (r : Opening). after r es (f d)) w.opens in
      let more = pushed o before (map f (take i cs)) (map g (take i ds)) es w.done (f d) (g e)
      (subst (λ (r : Opening). Gives r es (f d) (g e)) w.opens gives) fs next in
      record {
        rest = drop-set-lt (i + 1) ds i e one ∙ tail;
        done =
            subst (λ (xs : List Act). Performed o before xs (map g (take (i + 1) (set ds i e))) fs) (sym acts)
            (subst (λ (xs : List Outcome). Performed o before (map f (take i cs) ++ f d ∷ []) xs fs) (sym outs) more);
        keeps =
            map-set h ds i e
            ∙ ap (λ (y : H). set (map h ds) i y) (stays ∙ sym (get_or-map h ds i b))
            ∙ set-get_or (map h ds) i (h b)
            ∙ w.keeps;
        opens = opens ∙ w.opens;
      }

  pub going_all : length ds ≤ i → Performed o before (map f cs) (map g ds) es
  going_all past =
      let short : length cs ≤ i = omega (arith, ap length w.rest, length-drop i ds, length-drop i cs) in
      subst (λ (xs : List X). Performed o before (map f xs) (map g ds) es) (take_all i cs short)
      (subst (λ (xs : List X). Performed o before (map f (take i cs)) (map g xs) es) (take_all i ds past) w.done)
