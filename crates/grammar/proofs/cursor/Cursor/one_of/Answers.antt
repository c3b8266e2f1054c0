use Rattle.std.proofs.Common.{◌≡◌, ◌<◌, cond, max, Ordering, Less, Equal, Greater, is_lt, sym, ap, ◌∙◌, arith}
use Rattle.std.proofs.lemmas.List.{take_all}
use Rattle.std.specs.Ordering.{MatchOrdering, ord_max}
use Rattle.std.specs.Cmp.{ranks}
use Rattle.grammar.specs.contracts.flaw.FlawOrd.TheImpl as FlawOrd
use Rattle.grammar.specs.declared.flaw.Flaw.{Flaw}
use Rattle.grammar.specs.declared.flaw.Flaw.TheVariants.{Wrong, Early}
use Rattle.grammar.specs.Recording.{wrong}
use Rattle.grammar.specs.Flaws.{flawed}
use Rattle.grammar.specs.Reading.{far}
use Rattle.grammar.proofs.Heads.{missed}
use Rattle.grammar.proofs.cursor.Cursor.one_of.Goals as goal

-- the greater of two flaws is that of the one that came further
far_max : (a b m : Flaw) → m ≡ ord_max FlawOrd.cmp-value.it a b → far (flawed a) (flawed b) ≡ flawed m
far_max (Wrong k) (Wrong l) m e = sym (ap flawed e ∙ wider _ (ranks l k))
  where
    wider : (o : Ordering) → MatchOrdering o (l < k) (l ≡ k) (k < l) → flawed (cond (is_lt o) (Wrong k) (Wrong l)) ≡ wrong (max k l)
    wider Less h = ap wrong (omega (arith, h))
    wider Equal h = ap wrong (omega (arith, h))
    wider Greater h = ap wrong (omega (arith, h))
far_max (Wrong k) Early m e = sym (ap flawed e)
far_max Early (Wrong l) m e = sym (ap flawed e)
far_max Early Early m e = sym (ap flawed e)

pub loop-word-preserved : goal.loop-word-preserved
loop-word-preserved g c = record {
  here = c.loop-word.invariant.here;
  none = λ f. missed c.args.words.now c.loop-word.word-index c.loop-word-item.result c.args.self.now c.loop-word.flaw c.in-Err.other f
      (omega arith) c.loop-word-item.is (c.loop-word.invariant.none f) (rw c.loop-word.invariant.here at (c.in-Err.ensures.moves (f c.loop-word-item.result.1))) ∙ far_max _ _ _ c.max-flaw.ensures;
}

pub returns-clause-one : goal.returns-clause-one
returns-clause-one g c = record {
  found = tt;
  missed = λ f. rw (take_all c.loop-word.word-index c.args.words.now (omega arith)) at (c.loop-word.invariant.none f);
}
