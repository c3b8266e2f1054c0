-- The pieces of a recording that can be written are neat, and its rule's numbers have their roles.
use Rattle.std.proofs.Common.{◌≡◌, ℕ, zero, suc, ◌<◌, ◌≤◌, Bool, false, List, [], ◌∷◌, ◌++◌, length, get_or, ℤ, Some, codes, sym, refl, ap, ◌∙◌, append_assoc, arith}
use Rattle.events.specs.Kinds.{kind_number}
use Rattle.events.specs.declared.kind.Kind.{Kind}
use Rattle.events.specs.declared.kind.Kind.TheVariants.{Internal, Read, Write, Acquire, Release}
use Rattle.events.specs.declared.event.Action.{Action}
use Rattle.grammar.specs.Recording as grammar
use Rattle.grammar.specs.Recording.{All, Formula, Nests, Piece, Proper, TenDigits, Writable, bytes, comparing, ending, flat, formula, further, kind_words, line, lines, naming, pieces, values}
use Rattle.grammar.specs.Recording.{opening, closing, blank, newline, word, small, wide, eq, lt, gt, mark, by, neg, before, once, always, and, or, implies, since}
use Rattle.text.specs.Tokens.{is_letter, kind_in, run}
use Rattle.text.specs.Standing.{Neat, Roles, Stops, trim}

-- the kinds' words
pub kind_word : (k : ℕ) → k ≤ 4 → (d : Kind) × (kind_in (get_or kind_words k []) ≡ Some d) × (kind_number d ≡ k)
kind_word zero h = (Internal, refl, refl)
kind_word (suc zero) h = (Read, refl, refl)
kind_word (suc (suc zero)) h = (Write, refl, refl)
kind_word (suc (suc (suc zero))) h = (Acquire, refl, refl)
kind_word (suc (suc (suc (suc zero)))) h = (Release, refl, refl)
kind_word (suc (suc (suc (suc (suc k))))) h = let z : ⊥ = omega arith in elim z [ ]

kind_letters : (k : ℕ) → k ≤ 4 → (0 < length (get_or kind_words k [])) × (run is_letter (get_or kind_words k []) ≡ length (get_or kind_words k []))
kind_letters zero h = (omega arith, refl)
kind_letters (suc zero) h = (omega arith, refl)
kind_letters (suc (suc zero)) h = (omega arith, refl)
kind_letters (suc (suc (suc zero))) h = (omega arith, refl)
kind_letters (suc (suc (suc (suc zero)))) h = (omega arith, refl)
kind_letters (suc (suc (suc (suc (suc k))))) h = let z : ⊥ = omega arith in elim z [ ]

-- formulas
neat_formula : (d : ℕ) (f : Formula) (more : List Piece) → Nests d f → Neat more → Neat (formula f more)
neat_formula d (eq x c) more n m = (omega arith, refl, tt, (n.0, tt, (n.1, tt, m)))
neat_formula d (lt x c) more n m = (omega arith, refl, tt, (n.0, tt, (n.1, tt, m)))
neat_formula d (gt x c) more n m = (omega arith, refl, tt, (n.0, tt, (n.1, tt, m)))
neat_formula d (mark k) more n m = (omega arith, refl, tt, (n, tt, m))
neat_formula d (by k) more n m = (omega arith, refl, tt, (n, tt, m))
neat_formula zero (neg f) more n m = elim n [ ]
neat_formula (suc d) (neg f) more n m = (omega arith, refl, tt, neat_formula d f (closing ∷ more) n m)
neat_formula zero (before f) more n m = elim n [ ]
neat_formula (suc d) (before f) more n m = (omega arith, refl, tt, neat_formula d f (closing ∷ more) n m)
neat_formula zero (once f) more n m = elim n [ ]
neat_formula (suc d) (once f) more n m = (omega arith, refl, tt, neat_formula d f (closing ∷ more) n m)
neat_formula zero (always f) more n m = elim n [ ]
neat_formula (suc d) (always f) more n m = (omega arith, refl, tt, neat_formula d f (closing ∷ more) n m)
neat_formula zero (and f g) more n m = elim n [ ]
neat_formula (suc d) (and f g) more n m =
    (omega arith, refl, tt, neat_formula d f (blank ∷ formula g (closing ∷ more)) n.0 (neat_formula d g (closing ∷ more) n.1 m))
neat_formula zero (or f g) more n m = elim n [ ]
neat_formula (suc d) (or f g) more n m =
    (omega arith, refl, tt, neat_formula d f (blank ∷ formula g (closing ∷ more)) n.0 (neat_formula d g (closing ∷ more) n.1 m))
neat_formula zero (implies f g) more n m = elim n [ ]
neat_formula (suc d) (implies f g) more n m =
    (omega arith, refl, tt, neat_formula d f (blank ∷ formula g (closing ∷ more)) n.0 (neat_formula d g (closing ∷ more) n.1 m))
neat_formula zero (since f g) more n m = elim n [ ]
neat_formula (suc d) (since f g) more n m =
    (omega arith, refl, tt, neat_formula d f (blank ∷ formula g (closing ∷ more)) n.0 (neat_formula d g (closing ∷ more) n.1 m))

pub roles_formula : (f : Formula) (b : Bool) (more : List Piece) → Roles false more → Roles b (formula f more)
roles_formula (eq x c) b more m = (refl, (refl, m))
roles_formula (lt x c) b more m = (refl, (refl, m))
roles_formula (gt x c) b more m = (refl, (refl, m))
roles_formula (mark k) b more m = (refl, m)
roles_formula (by k) b more m = (refl, m)
roles_formula (neg f) b more m = roles_formula f false (closing ∷ more) m
roles_formula (before f) b more m = roles_formula f false (closing ∷ more) m
roles_formula (once f) b more m = roles_formula f false (closing ∷ more) m
roles_formula (always f) b more m = roles_formula f false (closing ∷ more) m
roles_formula (and f g) b more m = roles_formula f false (blank ∷ formula g (closing ∷ more)) (roles_formula g false (closing ∷ more) m)
roles_formula (or f g) b more m = roles_formula f false (blank ∷ formula g (closing ∷ more)) (roles_formula g false (closing ∷ more) m)
roles_formula (implies f g) b more m = roles_formula f false (blank ∷ formula g (closing ∷ more)) (roles_formula g false (closing ∷ more) m)
roles_formula (since f g) b more m = roles_formula f false (blank ∷ formula g (closing ∷ more)) (roles_formula g false (closing ∷ more) m)

pub trim_formula : (f : Formula) (more : List Piece) → trim (formula f more) ≡ formula f more
trim_formula (eq x c) more = refl
trim_formula (lt x c) more = refl
trim_formula (gt x c) more = refl
trim_formula (mark k) more = refl
trim_formula (by k) more = refl
trim_formula (neg f) more = refl
trim_formula (before f) more = refl
trim_formula (once f) more = refl
trim_formula (always f) more = refl
trim_formula (and f g) more = refl
trim_formula (or f g) more = refl
trim_formula (implies f g) more = refl
trim_formula (since f g) more = refl

-- what follows a formula stands behind its own pieces
head : List ℕ → List Piece → List Piece
head w ps = opening ∷ word w ∷ blank ∷ ps

one_more : (w : List ℕ) (f : Formula) (more : List Piece) → ((m : List Piece) → formula f m ≡ formula f [] ++ m) → head w (formula f (closing ∷ more)) ≡ head w (formula f (closing ∷ [])) ++ more
unfolding head
one_more w f more h = ap (head w) (h (closing ∷ more) ∙ sym (ap (λ (x : List Piece). x ++ more) (h (closing ∷ [])) ∙ append_assoc (formula f []) (closing ∷ []) more))

two_more : (w : List ℕ) (f g : Formula) (more : List Piece) → ((m : List Piece) → formula f m ≡ formula f [] ++ m) → ((m : List Piece) → formula g m ≡ formula g [] ++ m) → head w (formula f (blank ∷ formula g (closing ∷ more))) ≡ head w (formula f (blank ∷ formula g (closing ∷ []))) ++ more
unfolding head
two_more w f g more h k =
    let inner : formula g (closing ∷ more) ≡ formula g (closing ∷ []) ++ more = k (closing ∷ more) ∙ sym (ap (λ (x : List Piece). x ++ more) (k (closing ∷ [])) ∙ append_assoc (formula g []) (closing ∷ []) more) in
    ap (head w)
    (h (blank ∷ formula g (closing ∷ more)) ∙ ap (λ (x : List Piece). formula f [] ++ blank ∷ x) inner
    ∙ sym (ap (λ (x : List Piece). x ++ more) (h (blank ∷ formula g (closing ∷ []))) ∙ append_assoc (formula f []) (blank ∷ formula g (closing ∷ [])) more))

pub formula_more : (f : Formula) (more : List Piece) → formula f more ≡ formula f [] ++ more
unfolding head
formula_more (eq x c) more = refl
formula_more (lt x c) more = refl
formula_more (gt x c) more = refl
formula_more (mark k) more = refl
formula_more (by k) more = refl
formula_more (neg f) more = one_more (codes "not") f more (formula_more f)
formula_more (before f) more = one_more (codes "before") f more (formula_more f)
formula_more (once f) more = one_more (codes "once") f more (formula_more f)
formula_more (always f) more = one_more (codes "always") f more (formula_more f)
formula_more (and f g) more = two_more (codes "and") f g more (formula_more f) (formula_more g)
formula_more (or f g) more = two_more (codes "or") f g more (formula_more f) (formula_more g)
formula_more (implies f g) more = two_more (codes "implies") f g more (formula_more f) (formula_more g)
formula_more (since f g) more = two_more (codes "since") f g more (formula_more f) (formula_more g)

-- values
neat_further : (vs : List ℤ) (more : List Piece) → All TenDigits vs → Stops more → Neat more → (Stops (further vs more)) × Neat (further vs more)
neat_further [] more a s m = (s, m)
neat_further (v ∷ vs) more a s m = let h = neat_further vs more a.1 s m in (tt, (a.0, h.0, h.1))

neat_values : (vs : List ℤ) (more : List Piece) → All TenDigits vs → Stops more → Neat more → Neat (values vs more)
neat_values [] more a s m = m
neat_values (v ∷ vs) more a s m = let h = neat_further vs more a.1 s m in (a.0, h.0, h.1)

pub trim_further : (vs : List ℤ) (more : List Piece) → trim (further vs (closing ∷ more)) ≡ values vs (closing ∷ more)
trim_further [] more = refl
trim_further (v ∷ vs) more = refl

-- event lines
neat_ending : (k : ℕ) (v : ℤ) (more : List Piece) → TenDigits v → Stops more → Neat more → (Stops (ending k v more)) × Neat (ending k v more)
neat_ending zero v more t s m = (tt, (t, s, m))
neat_ending (suc zero) v more t s m = (tt, (t, s, m))
neat_ending (suc (suc zero)) v more t s m = (tt, (t, s, m))
neat_ending (suc (suc (suc k))) v more t s m = (s, m)

neat_lines : (acts : List Action) (more : List Piece) → All Writable acts → Neat more → Neat (lines acts more)
neat_lines [] more w m = m
neat_lines (a ∷ acts) more w m =
    let k = kind_letters a.kind w.0.kind in
    let e = neat_ending a.kind a.value (closing ∷ newline ∷ lines acts more) w.0.value tt (neat_lines acts more w.1 m) in
    (k.0, k.1, tt, (w.0.thread, tt, (w.0.subject, e.0, e.1)))

pub trim_lines : (acts : List Action) (more : List Piece) → trim (lines acts (opening ∷ more)) ≡ lines acts (opening ∷ more)
trim_lines [] more = refl
trim_lines (a ∷ acts) more = refl

-- the whole text
pub neat_pieces : (r : grammar.Recording) → Proper r → Neat (pieces r)
neat_pieces r p =
    let rule : Neat (formula r.rule (closing ∷ newline ∷ [])) = neat_formula 14 r.rule (closing ∷ newline ∷ []) p.rule tt in
    let events = neat_lines r.actions (opening ∷ word (codes "rule") ∷ blank ∷ formula r.rule (closing ∷ newline ∷ [])) p.actions (omega arith, refl, tt, rule) in
    (omega arith, refl, tt, (p.threads, tt, neat_values r.starts _ p.starts tt events))
