-- No two recordings are written alike.
use Rattle.std.proofs.Common.{◌≡◌, ℕ, zero, suc, ◌≤◌, List, [], ◌∷◌, ◌++◌, get_or, ℤ, pos, codes, decimal, sym, refl, ap, ◌∙◌, arith}
use Rattle.std.specs.Fmt.{signed_decimal}
use Rattle.std.proofs.lemmas.List.{append_cancel_left}
use Rattle.events.specs.declared.event.Action.{Action}
use Rattle.grammar.specs.Recording.{Formula, Piece, opening, closing, blank, newline, word, flat, formula, kind_words, ending, line, lines, further, values, TenDigits, Nests, Writable, All}
use Rattle.grammar.specs.Theorems.{OneRecording}
use Rattle.grammar.proofs.Solid.{Solid, split_off, number_then, integer_then, find, solid_of, Parted, number_parts, integer_parts, no_integer}
use Rattle.grammar.proofs.OneFormula.{formulas_apart}

-- values
further_parted : (vs : List ℤ) (p : List Piece) → Parted (flat (further vs (closing ∷ p)))
further_parted [] p = record { first = 41; behind = flat p; low = omega arith; is = refl }
further_parted (v ∷ vs) p = record { first = 32; behind = signed_decimal v ++ flat (further vs (closing ∷ p)); low = omega arith; is = refl }

further_apart : (us vs : List ℤ) (p q : List Piece) → All TenDigits us → All TenDigits vs
    → flat (further us (closing ∷ p)) ≡ flat (further vs (closing ∷ q)) → (us ≡ vs) × (flat p ≡ flat q)
further_apart [] [] p q hu hv e = (refl, append_cancel_left (41 ∷ []) (flat p) (flat q) e)
further_apart [] (v ∷ vs) p q hu hv e = let z : ◌≡◌ {A = ℕ} 41 32 = cc in absurd (omega arith)
further_apart (u ∷ us) [] p q hu hv e = let z : ◌≡◌ {A = ℕ} 32 41 = cc in absurd (omega arith)
further_apart (u ∷ us) (v ∷ vs) p q (hu, hus) (hv, hvs) e =
    let r = integer_parts u v (flat (further us (closing ∷ p))) (flat (further vs (closing ∷ q))) hu hv (further_parted us p) (further_parted vs q) (append_cancel_left (32 ∷ []) _ _ e) in
    let s = further_apart us vs p q hus hvs r.1 in
    (ap (λ (x : ℤ). x ∷ us) r.0 ∙ ap (λ (x : List ℤ). v ∷ x) s.0, s.1)

values_apart : (us vs : List ℤ) (p q : List Piece) → All TenDigits us → All TenDigits vs
    → flat (values us (closing ∷ p)) ≡ flat (values vs (closing ∷ q)) → (us ≡ vs) × (flat p ≡ flat q)
values_apart [] [] p q hu hv e = (refl, append_cancel_left (41 ∷ []) (flat p) (flat q) e)
values_apart [] (v ∷ vs) p q hu (hv, hvs) e = no_integer v (flat p) (flat (further vs (closing ∷ q))) hv (further_parted vs q) e
values_apart (u ∷ us) [] p q (hu, hus) hv e = no_integer u (flat q) (flat (further us (closing ∷ p))) hu (further_parted us p) (sym e)
values_apart (u ∷ us) (v ∷ vs) p q (hu, hus) (hv, hvs) e =
    let r = integer_parts u v (flat (further us (closing ∷ p))) (flat (further vs (closing ∷ q))) hu hv (further_parted us p) (further_parted vs q) e in
    let s = further_apart us vs p q hus hvs r.1 in
    (ap (λ (x : ℤ). x ∷ us) r.0 ∙ ap (λ (x : List ℤ). v ∷ x) s.0, s.1)

-- lines
kind_known : (k : ℕ) → k ≤ 4 → Solid (get_or kind_words k []) × (find (get_or kind_words k []) kind_words ≡ k)
kind_known zero h = (solid_of (codes "internal") refl, refl)
kind_known (suc zero) h = (solid_of (codes "read") refl, refl)
kind_known (suc (suc zero)) h = (solid_of (codes "write") refl, refl)
kind_known (suc (suc (suc zero))) h = (solid_of (codes "acquire") refl, refl)
kind_known (suc (suc (suc (suc zero)))) h = (solid_of (codes "release") refl, refl)
kind_known (suc (suc (suc (suc (suc k))))) h = absurd (omega arith)

ending_parted : (k : ℕ) (v : ℤ) (p : List Piece) → Parted (flat (ending k v (closing ∷ p)))
ending_parted zero v p = record { first = 32; behind = signed_decimal v ++ (41 ∷ flat p); low = omega arith; is = refl }
ending_parted (suc zero) v p = record { first = 32; behind = signed_decimal v ++ (41 ∷ flat p); low = omega arith; is = refl }
ending_parted (suc (suc zero)) v p = record { first = 32; behind = signed_decimal v ++ (41 ∷ flat p); low = omega arith; is = refl }
ending_parted (suc (suc (suc k))) v p = record { first = 41; behind = flat p; low = omega arith; is = refl }

value_apart : (u v : ℤ) (p q : List Piece) → TenDigits u → TenDigits v
    → 32 ∷ (signed_decimal u ++ (41 ∷ flat p)) ≡ 32 ∷ (signed_decimal v ++ (41 ∷ flat q)) → (u ≡ v) × (flat p ≡ flat q)
value_apart u v p q hu hv e =
    let r = integer_then u v 41 41 (flat p) (flat q) hu hv (omega arith) (omega arith) (append_cancel_left (32 ∷ []) _ _ e) in (r.0, r.2)

ending_apart : (k : ℕ) (u v : ℤ) (p q : List Piece) → TenDigits u → TenDigits v → (3 ≤ k → u ≡ pos 0) → (3 ≤ k → v ≡ pos 0)
    → flat (ending k u (closing ∷ p)) ≡ flat (ending k v (closing ∷ q)) → (u ≡ v) × (flat p ≡ flat q)
ending_apart zero u v p q hu hv zu zv e = value_apart u v p q hu hv e
ending_apart (suc zero) u v p q hu hv zu zv e = value_apart u v p q hu hv e
ending_apart (suc (suc zero)) u v p q hu hv zu zv e = value_apart u v p q hu hv e
ending_apart (suc (suc (suc k))) u v p q hu hv zu zv e = (zu (omega arith) ∙ sym (zv (omega arith)), append_cancel_left (41 ∷ []) (flat p) (flat q) e)

-- what is behind a line's word and a blank
abbrev after_word : Action → List Piece → List ℕ
after_word a p = decimal a.thread ++ (32 ∷ (decimal a.subject ++ flat (ending a.kind a.value (closing ∷ newline ∷ p))))

action_same : (a b : Action) → a.thread ≡ b.thread → a.kind ≡ b.kind → a.subject ≡ b.subject → a.value ≡ b.value → a ≡ b
action_same a b et ek es ev =
    ap (λ (x : ℕ). record { thread = x; kind = a.kind; subject = a.subject; value = a.value }) et
    ∙ ap (λ (x : ℕ). record { thread = b.thread; kind = x; subject = a.subject; value = a.value }) ek
    ∙ ap (λ (x : ℕ). record { thread = b.thread; kind = b.kind; subject = x; value = a.value }) es
    ∙ ap (λ (x : ℤ). record { thread = b.thread; kind = b.kind; subject = b.subject; value = x }) ev

line_apart : (a b : Action) (p q : List Piece) → Writable a → Writable b → flat (line a p) ≡ flat (line b q) → (a ≡ b) × (flat p ≡ flat q)
line_apart a b p q ha hb e =
    let ka = kind_known a.kind ha.kind in
    let kb = kind_known b.kind hb.kind in
    let w = split_off (get_or kind_words a.kind []) (get_or kind_words b.kind []) (after_word a p) (after_word b q) 32 32 ka.0 kb.0 (omega arith) (omega arith)
    (append_cancel_left (40 ∷ []) _ _ e) in
    let k : a.kind ≡ b.kind = sym ka.1 ∙ ap (λ (x : List ℕ). find x kind_words) w.0 ∙ kb.1 in
    let t = number_then a.thread b.thread 32 32 _ _ ha.thread hb.thread (omega arith) (omega arith) w.2 in
    let s = number_parts a.subject b.subject _ _ ha.subject hb.subject (ending_parted a.kind a.value (newline ∷ p)) (ending_parted b.kind b.value (newline ∷ q)) t.2 in
    let v = ending_apart b.kind a.value b.value (newline ∷ p) (newline ∷ q) ha.value hb.value (λ h. ha.lock (omega arith)) hb.lock
    (ap (λ (x : ℕ). flat (ending x a.value (closing ∷ newline ∷ p))) (sym k) ∙ s.1) in
    (action_same a b t.0 k s.0 v.0, append_cancel_left (10 ∷ []) (flat p) (flat q) v.1)

abbrev rule_line_lem : Formula → List Piece
rule_line_lem f = opening ∷ word (codes "rule") ∷ blank ∷ formula f (closing ∷ newline ∷ [])

-- the rule's line is no action's
no_line : {A : Type 0} (a : Action) (x : List ℕ) (p : List Piece) → Writable a → 40 ∷ (codes "rule" ++ (32 ∷ x)) ≡ flat (line a p) → A
no_line a x p h e =
    let k = kind_known a.kind h.kind in
    let w = split_off (codes "rule") (get_or kind_words a.kind []) x (after_word a p) 32 32 (solid_of (codes "rule") refl) k.0 (omega arith) (omega arith) (append_cancel_left (40 ∷ []) _ _ e) in
    let z : 5 ≡ a.kind = ap (λ (y : List ℕ). find y kind_words) w.0 ∙ k.1 in
    absurd (omega (arith, h.kind))

lines_apart : (us vs : List Action) (f g : Formula) → All Writable us → All Writable vs → Nests 14 f → Nests 14 g
    → flat (lines us (rule_line_lem f)) ≡ flat (lines vs (rule_line_lem g)) → (us ≡ vs) × (f ≡ g)
lines_apart [] [] f g hu hv hf hg e =
    (refl, (formulas_apart 14 f g (closing ∷ newline ∷ []) (closing ∷ newline ∷ []) hf hg (append_cancel_left (codes "(rule ") _ _ e)).0)
lines_apart [] (v ∷ vs) f g hu (hv, hvs) hf hg e = no_line v (flat (formula f (closing ∷ newline ∷ []))) (lines vs (rule_line_lem g)) hv e
lines_apart (u ∷ us) [] f g (hu, hus) hv hf hg e = no_line u (flat (formula g (closing ∷ newline ∷ []))) (lines us (rule_line_lem f)) hu (sym e)
lines_apart (u ∷ us) (v ∷ vs) f g (hu, hus) (hv, hvs) hf hg e =
    let r = line_apart u v (lines us (rule_line_lem f)) (lines vs (rule_line_lem g)) hu hv e in
    let s = lines_apart us vs f g hus hvs hf hg r.1 in
    (ap (λ (x : Action). x ∷ us) r.0 ∙ ap (λ (x : List Action). v ∷ x) s.0, s.1)

pub one_recording : OneRecording
one_recording r q hr hq e =
    let t = number_then r.threads q.threads 32 32 _ _ hr.threads hq.threads (omega arith) (omega arith) (append_cancel_left (codes "(open ") _ _ e) in
    let v = values_apart r.starts q.starts (closing ∷ newline ∷ lines r.actions (rule_line_lem r.rule)) (closing ∷ newline ∷ lines q.actions (rule_line_lem q.rule))
    hr.starts hq.starts (append_cancel_left (40 ∷ []) _ _ t.2) in
    let l = lines_apart r.actions q.actions r.rule q.rule hr.actions hq.actions hr.rule hq.rule (append_cancel_left (41 ∷ 10 ∷ []) _ _ v.1) in
    ap (λ (x : ℕ). record { threads = x; starts = r.starts; actions = r.actions; rule = r.rule }) t.0
    ∙ ap (λ (x : List ℤ). record { threads = q.threads; starts = x; actions = r.actions; rule = r.rule }) v.0
    ∙ ap (λ (x : List Action). record { threads = q.threads; starts = q.starts; actions = x; rule = r.rule }) l.0
    ∙ ap (λ (x : Formula). record { threads = q.threads; starts = q.starts; actions = q.actions; rule = x }) l.1
