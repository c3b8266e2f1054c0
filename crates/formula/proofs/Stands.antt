-- The theorem on a formula's codes.
use Rattle.std.proofs.Common.{◌≡◌, ℕ, zero, suc, ◌+◌, ◌-◌, ◌<◌, ◌≤◌, false, List, length, get_or, ℤ, Decides, sym, refl, ap, ◌∙◌, subst, add-one, arith}
use Rattle.std.proofs.lemmas.List.Sums.{fold_more}
use Rattle.std.proofs.lemmas.Bool.{false≢true}
use Rattle.std.proofs.lemmas.Bool.Decides.{Decides-at}
use Rattle.codes.specs.Codes.{bit_of}
use Rattle.events.specs.declared.event.Action.{Action}
use Rattle.formula.specs.declared.formula.Formula.{Formula as Compiled}
use Rattle.formula.specs.Step.{stepped}
use Rattle.formula.specs.Meant.{starts_of, meant}
use Rattle.formula.specs.Table.{Tabled}
use Rattle.grammar.specs.Recording.{Formula}
use Rattle.formula.specs.Truth.{no_action, Holds, subformulas}
use Rattle.formula.specs.Theorem.{code_after, Truthful, Faithful, Watches, AllWatch}
use Rattle.formula.proofs.Parts.{placed}
use Rattle.formula.proofs.Truths.{codes, holds_at, flag_at, begin_over}

codes_ran : (t : Compiled) (run : List Action) (k : ℕ) → k ≤ length run → code_after t run k ≡ codes (starts_of t) t.table.nodes t.table.len run k
unfolding codes
codes_ran t run zero h = refl
codes_ran t run (suc k) h =
    let near : k < length run = omega arith in
    let back : k ≡ suc k - 1 = omega arith in
    ap (λ i. code_after t run i) (sym (add-one k))
    ∙ fold_more (meant t).step (meant t).start run k no_action near
    ∙ ap (λ c. stepped t.table.nodes t.table.len c (get_or run k no_action)) (codes_ran t run k (omega arith))
    ∙ ap (λ i. stepped t.table.nodes t.table.len (codes (starts_of t) t.table.nodes t.table.len run k) (get_or run i no_action)) back

truthful : (t : Compiled) (f : Formula) → Tabled t.table.nodes t.table.len f → Truthful (starts_of t) t f
truthful t f tab run zero low h i l = absurd (omega arith)
truthful t f tab run (suc k) low h i l =
    let at = placed t.table.nodes t.table.len f 0 tab.numbered (omega (arith, tab.all)) i f l in
    let same : 0 + i ≡ i = omega arith in
    let told = holds_at (starts_of t) t.table.nodes (length t.starts) t.table.len t.sound t.some t.few run (get_or (subformulas f) i f) (0 + i) at.1 at.0 k in
    Decides-at _ _ (ap (λ c. bit_of c i) (codes_ran t run (suc k) h))
    (subst (λ j. Decides (bit_of (codes (starts_of t) t.table.nodes t.table.len run (suc k)) j) (Holds (starts_of t) run (get_or (subformulas f) i f) (suc k))) same told)

faithful : (t : Compiled) (f : Formula) → Tabled t.table.nodes t.table.len f → Faithful (starts_of t) t f
faithful t f tab run zero h =
    let clear : bit_of (code_after t run 0) 61 ≡ false =
    ap (λ c. bit_of c 61) (codes_ran t run 0 h) ∙ begin_over (starts_of t) t.table.nodes (length t.starts) t.table.len t.sound t.some t.few run 61 (omega (arith, t.few)) (omega arith) in
    (λ y. absurd (false≢true (sym clear ∙ y)), λ q. absurd (omega (arith, q.1, q.2)))
faithful t f tab run (suc k) h =
    Decides-at _ _ (ap (λ c. bit_of c 61) (codes_ran t run (suc k) h))
    (flag_at (starts_of t) t.table.nodes (length t.starts) t.table.len t.sound t.some t.few run f (omega (arith, tab.all)) tab.numbered k)

pub all_watch : AllWatch
all_watch t f tab = record { truths = truthful t f tab; bad = faithful t f tab }

-- from starting values by another name
pub watch_from : (starts : List ℤ) (t : Compiled) → starts_of t ≡ starts → (f : Formula) → Tabled t.table.nodes t.table.len f → Watches starts t f
watch_from starts t e f tab = subst (λ s. Watches s t f) e (all_watch t f tab)
