-- The legal texts are the spelled ones.
use Rattle.std.proofs.Common.{◌≡◌, ℕ, zero, suc, ◌^◌, ◌<◌, ◌≤◌, List, [], ◌∷◌, ◌++◌, get_or, ℤ, pos, codes, decimal, sym, refl, ap, ◌∙◌, inl, inr, append_assoc, append-nil, arith}
use Rattle.std.specs.Fmt.{signed_decimal}
use Rattle.events.specs.declared.event.Action.{Action}
use Rattle.grammar.specs.Recording.{Formula, Recording, Piece, opening, closing, blank, newline, word, small, flat, formula, kind_words, ending, line, lines, further, values, pieces, TenDigits, Nests, Writable, All, Legal, LegalRule}
use Rattle.grammar.specs.Spelling.{Among, Num, Int, Term, shown, Row, at, lock, ats, locks, RowFits, row_line, AllInt, AllFit, tails, spaced, row_lines, render, Spelled, SpelledRule}
use Rattle.grammar.proofs.Decimal.{decimal_num, num_decimal, signed_int, int_signed}
use Rattle.grammar.proofs.Terms.{term_of, fits, same, Same, formula_of}

-- values
abbrev pub texts : List ℤ → List (List ℕ)
texts [] = []
texts (v ∷ vs) = signed_decimal v ∷ texts vs

texts_int : (vs : List ℤ) → All TenDigits vs → AllInt (texts vs)
texts_int [] h = tt
texts_int (v ∷ vs) (h, k) = (signed_int v h, texts_int vs k)

pub further_text : (vs : List ℤ) (more : List Piece) → flat (further vs more) ≡ tails (texts vs) ++ flat more
further_text [] more = refl
further_text (v ∷ vs) more =
    ap (λ (x : List ℕ). 32 ∷ (signed_decimal v ++ x)) (further_text vs more) ∙ ap (λ (x : List ℕ). 32 ∷ x) (sym (append_assoc (signed_decimal v) (tails (texts vs)) (flat more)))

pub values_text : (vs : List ℤ) (more : List Piece) → flat (values vs more) ≡ spaced (texts vs) ++ flat more
values_text [] more = refl
values_text (v ∷ vs) more = ap (λ (x : List ℕ). signed_decimal v ++ x) (further_text vs more) ∙ sym (append_assoc (signed_decimal v) (tails (texts vs)) (flat more))

values_of : (ws : List (List ℕ)) → AllInt ws → (vs : List ℤ) × All TenDigits vs × (ws ≡ texts vs)
values_of [] h = ([], tt, refl)
values_of (w ∷ ws) (h, k) =
    let r = int_signed w h in
    let q = values_of ws k in
    (r.0 ∷ q.0, (r.1, q.1), ap (λ (x : List ℕ). x ∷ ws) r.2 ∙ ap (λ (x : List (List ℕ)). signed_decimal r.0 ∷ x) q.2)

-- actions
abbrev row_by : ℕ → List ℕ → List ℕ → List ℕ → Row
row_by zero i s v = at (codes "internal") i s v
row_by (suc zero) i s v = at (codes "read") i s v
row_by (suc (suc zero)) i s v = at (codes "write") i s v
row_by (suc (suc (suc zero))) i s v = lock (codes "acquire") i s
row_by (suc (suc (suc (suc k)))) i s v = lock (codes "release") i s

abbrev pub row_of : Action → Row
row_of a = row_by a.kind (decimal a.thread) (decimal a.subject) (signed_decimal a.value)

row_by_fits : (k : ℕ) (i s v : List ℕ) → Num i → Num s → Int v → RowFits (row_by k i s v)
row_by_fits zero i s v hi hs hv = (inl refl, hi, hs, hv)
row_by_fits (suc zero) i s v hi hs hv = (inr (inl refl), hi, hs, hv)
row_by_fits (suc (suc zero)) i s v hi hs hv = (inr (inr (inl refl)), hi, hs, hv)
row_by_fits (suc (suc (suc zero))) i s v hi hs hv = (inl refl, hi, hs)
row_by_fits (suc (suc (suc (suc k)))) i s v hi hs hv = (inr (inl refl), hi, hs)

pub row_fits : (a : Action) → Writable a → RowFits (row_of a)
row_fits a h =
    row_by_fits a.kind (decimal a.thread) (decimal a.subject) (signed_decimal a.value) (decimal_num a.thread h.thread) (decimal_num a.subject h.subject)
    (signed_int a.value h.value)

line_by : (k i s : ℕ) (v : ℤ) (more : List Piece) → k ≤ 4
    → flat (opening ∷ word (get_or kind_words k []) ∷ blank ∷ small i ∷ blank ∷ small s ∷ ending k v (closing ∷ newline ∷ more)) ≡ row_line (row_by k (decimal i) (decimal s) (signed_decimal v)) (flat more)
line_by zero i s v more h = refl
line_by (suc zero) i s v more h = refl
line_by (suc (suc zero)) i s v more h = refl
line_by (suc (suc (suc zero))) i s v more h = refl
line_by (suc (suc (suc (suc zero)))) i s v more h = refl
line_by (suc (suc (suc (suc (suc k))))) i s v more h = absurd (omega arith)

pub line_text : (a : Action) (more : List Piece) → a.kind ≤ 4 → flat (line a more) ≡ row_line (row_of a) (flat more)
line_text a more h = line_by a.kind a.thread a.subject a.value more h

-- the action of kind k with these numbers
abbrev action_by : ℕ → ℕ → ℕ → ℤ → Action
action_by k i s v = record { thread = i; kind = k; subject = s; value = v }

valued : (w : List ℕ) → Among w ats → (k : ℕ) × (k ≤ 2) × ((i s v : List ℕ) → row_by k i s v ≡ at w i s v)
valued w (inl e) = (0, omega arith, λ i s v. ap (λ (x : List ℕ). at x i s v) (sym e))
valued w (inr (inl e)) = (1, omega arith, λ i s v. ap (λ (x : List ℕ). at x i s v) (sym e))
valued w (inr (inr (inl e))) = (2, omega arith, λ i s v. ap (λ (x : List ℕ). at x i s v) (sym e))
valued w (inr (inr (inr h))) = absurd h

locked : (w : List ℕ) → Among w locks → (k : ℕ) × (3 ≤ k) × (k ≤ 4) × ((i s v : List ℕ) → row_by k i s v ≡ lock w i s)
locked w (inl e) = (3, omega arith, omega arith, λ i s v. ap (λ (x : List ℕ). lock x i s) (sym e))
locked w (inr (inl e)) = (4, omega arith, omega arith, λ i s v. ap (λ (x : List ℕ). lock x i s) (sym e))
locked w (inr (inr h)) = absurd h

action_of_lem : (r : Row) → RowFits r → (a : Action) × Writable a × (row_of a ≡ r)
action_of_lem (at w i s v) (m, hi, hs, hv) = go (valued w m) (num_decimal i hi) (num_decimal s hs) (int_signed v hv)
  where
    go : (k : ℕ) × (k ≤ 2) × ((i s v : List ℕ) → row_by k i s v ≡ at w i s v) → (n : ℕ) × (n < 10 ^ 10) × (i ≡ decimal n)
        → (n : ℕ) × (n < 10 ^ 10) × (s ≡ decimal n) → (z : ℤ) × TenDigits z × (v ≡ signed_decimal z) → (a : Action) × Writable a × (row_of a ≡ at w i s v)
    go (k, hk, ek) (x, hx, ex) (y, hy, ey) (z, hz, ez) = (
      action_by k x y z,
      record { kind = omega arith; thread = hx; subject = hy; value = hz; lock = λ h. absurd (omega arith) },
      ek (decimal x) (decimal y) (signed_decimal z) ∙ cc,
    )
action_of_lem (lock w i s) (m, hi, hs) = go (locked w m) (num_decimal i hi) (num_decimal s hs)
  where
    go : (k : ℕ) × (3 ≤ k) × (k ≤ 4) × ((i s v : List ℕ) → row_by k i s v ≡ lock w i s) → (n : ℕ) × (n < 10 ^ 10) × (i ≡ decimal n)
        → (n : ℕ) × (n < 10 ^ 10) × (s ≡ decimal n) → (a : Action) × Writable a × (row_of a ≡ lock w i s)
    go (k, lk, hk, ek) (x, hx, ex) (y, hy, ey) = (
      action_by k x y (pos 0),
      record { kind = hk; thread = hx; subject = hy; value = omega arith; lock = λ h. refl },
      ek (decimal x) (decimal y) (signed_decimal (pos 0)) ∙ cc,
    )

abbrev pub rows_of : List Action → List Row
rows_of [] = []
rows_of (a ∷ acts) = row_of a ∷ rows_of acts

rows_fit : (acts : List Action) → All Writable acts → AllFit (rows_of acts)
rows_fit [] h = tt
rows_fit (a ∷ acts) (h, k) = (row_fits a h, rows_fit acts k)

actions_of_lem : (rs : List Row) → AllFit rs → (acts : List Action) × All Writable acts × (rows_of acts ≡ rs)
actions_of_lem [] h = ([], tt, refl)
actions_of_lem (r ∷ rs) (h, k) =
    let p = action_of_lem r h in
    let q = actions_of_lem rs k in
    (p.0 ∷ q.0, (p.1, q.1), ap (λ (x : Row). x ∷ rows_of q.0) p.2 ∙ ap (λ (x : List Row). r ∷ x) q.2)

-- the rule's line
abbrev rule_line : Formula → List Piece
rule_line f = opening ∷ word (codes "rule") ∷ blank ∷ formula f (closing ∷ newline ∷ [])

lines_text : (acts : List Action) (f : Formula) (t : Term) → All Writable acts → Same f t → flat (lines acts (rule_line f)) ≡ row_lines (rows_of acts) t
lines_text [] f t h e = ap (λ (x : List ℕ). 40 ∷ (codes "rule" ++ (32 ∷ x))) (e (closing ∷ newline ∷ []))
lines_text (a ∷ acts) f t (h, k) e =
    line_text a (lines acts (rule_line f)) h.kind ∙ ap (row_line (row_of a)) (lines_text acts f t k e)

-- recordings
text_of : (r : Recording) (t : Term) → All Writable r.actions → Same r.rule t
    → flat (pieces r) ≡ render (record { count = decimal r.threads; values = texts r.starts; rows = rows_of r.actions; rule = t })
text_of r t h e =
    ap (λ (x : List ℕ). codes "(open " ++ (decimal r.threads ++ (codes " (" ++ x)))
    (values_text r.starts (closing ∷ closing ∷ newline ∷ lines r.actions (rule_line r.rule))
    ∙ ap (λ (x : List ℕ). spaced (texts r.starts) ++ (codes "))" ++ (10 ∷ x))) (lines_text r.actions r.rule t h e))

pub spelled : (w : List ℕ) → Legal w → Spelled w
spelled w (r, h, e) = (
  record { count = decimal r.threads; values = texts r.starts; rows = rows_of r.actions; rule = term_of r.rule },
  (decimal_num r.threads h.threads, texts_int r.starts h.starts, rows_fit r.actions h.actions, fits 14 r.rule h.rule),
  e ∙ text_of r (term_of r.rule) h.actions (same r.rule),
)

pub legal : (w : List ℕ) → Spelled w → Legal w
legal w (s, (hc, hv, hr, hf), e) = go (num_decimal s.count hc) (values_of s.values hv) (actions_of_lem s.rows hr) (formula_of 14 s.rule hf)
  where
    go : (n : ℕ) × (n < 10 ^ 10) × (s.count ≡ decimal n) → (vs : List ℤ) × All TenDigits vs × (s.values ≡ texts vs)
        → (acts : List Action) × All Writable acts × (rows_of acts ≡ s.rows) → (f : Formula) × Nests 14 f × Same f s.rule → Legal w
    go (n, hn, en) (vs, hvs, evs) (acts, has, eas) (f, hf, ef) = (
      record { threads = n; starts = vs; actions = acts; rule = f },
      record { threads = hn; starts = hvs; actions = has; rule = hf },
      e ∙ sym (text_of (record { threads = n; starts = vs; actions = acts; rule = f }) s.rule has ef
          ∙ ap (λ (x : List ℕ). render (record { count = x; values = texts vs; rows = rows_of acts; rule = s.rule })) (sym en)
          ∙ ap (λ (x : List (List ℕ)). render (record { count = s.count; values = x; rows = rows_of acts; rule = s.rule })) (sym evs)
          ∙ ap (λ (x : List Row). render (record { count = s.count; values = s.values; rows = x; rule = s.rule })) eas),
    )

-- rules alone
pub spelled_rule : (w : List ℕ) → LegalRule w → SpelledRule w
spelled_rule w (f, h, e) = (term_of f, fits 15 f h, e ∙ same f [] ∙ append-nil (shown (term_of f)))

pub legal_rule : (w : List ℕ) → SpelledRule w → LegalRule w
legal_rule w (t, h, e) = let r = formula_of 15 t h in (r.0, r.1, e ∙ sym (r.2 [] ∙ append-nil (shown t)))
