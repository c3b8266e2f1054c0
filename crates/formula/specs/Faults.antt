-- The numbers of the reasons why a rule is refused, and their places.
use Rattle.std.specs.Prelude.{ℕ}
use Rattle.text.specs.declared.place.Place.{Place}
use Rattle.text.specs.Numbers.{text_number, text_place}
use Rattle.text.specs.Places.{start}
use Rattle.formula.specs.declared.fault.RuleFault.{RuleFault}
use Rattle.formula.specs.declared.fault.RuleFault.TheVariants.{Void, Text, TooMany, Variable, Label, Thread}

abbrev pub rule_number : RuleFault → ℕ
rule_number Void = 9
rule_number (Text fault) = text_number fault
rule_number (TooMany p) = 71
rule_number (Variable p) = 72
rule_number (Label p) = 73
rule_number (Thread p) = 74

-- that of a void trace is the start of the text
abbrev pub rule_place : RuleFault → Place
rule_place Void = start
rule_place (Text fault) = text_place fault
rule_place (TooMany p) = p
rule_place (Variable p) = p
rule_place (Label p) = p
rule_place (Thread p) = p
