-- From the words of a text to the table of the formula that it spells.
use Rattle.std.proofs.Common.{◌≡◌, ℕ, ◌≤◌, true, List, [], length, is_some as option_is_some, Some, None, Option, sym, refl, subst, arith}
use Rattle.grammar.specs.Recording.{Formula, Nests, LegalRule, flat, formula}
use Rattle.formula.specs.declared.node.Table.{Table}
use Rattle.formula.specs.declared.word.Word.{Word}
use Rattle.formula.specs.Spelling.{Spelt}
use Rattle.formula.specs.Suiting.{Suited}
use Rattle.formula.specs.Table.{Tabled}
use Rattle.formula.specs.Truth.{size}
use Rattle.formula.specs.Words.{Spell, CompiledTo}
use Rattle.formula.proofs.Rows.{spells_words}
use Rattle.formula.proofs.Views.{one_spelt}

pub spelt_row : (f : Formula) (ws : List Word) → Spelt f ws → size f ≤ 60 → Spell ws f × (length ws ≤ 60)
spelt_row f ws sp few =
    let all : length ws ≡ size f = sp.all (omega (arith, sp.some)) in
    ((spells_words ws f (λ j l. sp.words j (omega arith)), sym all), omega arith)

module _ (t : List ℕ) (v : ℕ) (ws : List Word) (legal : LegalRule t) (reads : (f : Formula) → Nests 15 f → t ≡ flat (formula f []) → Spelt f ws)
    (suits : (f : Formula) → Spelt f ws → (size f ≤ 60) × Suited v f) (r : Option Table) (compiled : CompiledTo ws r) where
  pub is_some : option_is_some r ≡ true
  is_some = go r compiled
    where
      go : (q : Option Table) → CompiledTo ws q → option_is_some q ≡ true
      go (Some x) h = refl
      go None h =
          let sp = reads legal.0 legal.1 legal.2 in
          let ro = spelt_row legal.0 ws sp (suits legal.0 sp).0 in
          absurd (h ro.1 legal.0 ro.0)

  pub tabled : (x : Table) → r ≡ Some x → (f : Formula) → Nests 15 f → t ≡ flat (formula f []) → Tabled x.nodes x.len f
  tabled x is f n e =
      let h : CompiledTo ws (Some x) = subst (CompiledTo ws) is compiled in
      let g = h.1.0 in
      let sp = reads f n e in
      let ro = spelt_row f ws sp (suits f sp).0 in
      let same : g ≡ f = one_spelt ws 0 g f h.1.1.0 ro.0.0 in
      subst (Tabled x.nodes x.len) same h.1.2
