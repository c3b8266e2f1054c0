use Rattle.grammar.proofs.cursor.Cursor.+formula.Given as goal

abbrev pub decreases-formula : goal.decreases-formula
decreases-formula l = l.room
