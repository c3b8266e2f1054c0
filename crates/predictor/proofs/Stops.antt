-- What is said of a recording, from what each layer says of it.
use Rattle.std.proofs.Common.{◌≡◌, ℕ, ◌+◌, List, length, Some, None, Ok, Err, vec_items, Option, Result, sym, refl, ap, ◌∙◌, subst, arith}
use Rattle.std.proofs.lemmas.List.{length-map}
use Rattle.events.specs.declared.event.Event.{Event}
use Rattle.events.specs.declared.refusal.OpenRefusal.{OpenRefusal}
use Rattle.events.specs.Events.{action_of}
use Rattle.events.specs.Noting.{Opening, opened}
use Rattle.judge.specs.declared.row.SearchRow.{SearchRow}
use Rattle.judge.specs.declared.verdict.Judgement.{Judgement}
use Rattle.grammar.specs.Recording as grammar
use Rattle.text.specs.declared.place.Place.{Place}
use Rattle.text.specs.declared.recording.Recording.{Recording}
use Rattle.text.specs.Places.{byte_place}
use Rattle.text.specs.Reading.{Answers, said}
use Rattle.predictor.specs.declared.fault.Fault.{Fault}
use Rattle.predictor.specs.declared.fault.Fault.TheVariants.{Text, Record, Rule, Search}
use Rattle.predictor.specs.declared.fault.Stop.{Stop}
use Rattle.predictor.specs.declared.fault.Stop.TheVariants.{Faulty}
use Rattle.predictor.specs.declared.predicting.Prediction.{Prediction}
use Rattle.predictor.specs.Outcome.{opens, opening_for, Whole}
use Rattle.predictor.specs.Ruled.{Ruled}
use Rattle.predictor.specs.Predicted.{Ready, Begins, rule_text, Predicted}

not_void : (v : Option OpenRefusal) (u : Unit {0}) → Ok u ≡ opens v → v ≡ None
not_void (Some why) u h = let z : ◌≡◌ {A = ℕ} 0 1 = cc in absurd (omega arith)
not_void None u h = refl

abbrev faulted : Fault → Result Prediction Stop
faulted g = Err (Faulty g)

-- what was lent, and what it holds in the end
module _ (t : List ℕ) (room : ℕ) (rows : List SearchRow) (list : List ℕ) where
  -- a recording that was read, and the opening that it asks for
  module _ (rec : Recording) (h : Answers t (Ok rec)) (o : Opening) (asked : o ≡ opened rec.threads (vec_items rec.starts) room) where
    abbrev pub spelled : grammar.Recording
    spelled = said rec h.0

    module _ (u : Unit {0}) (free : Ok u ≡ opens o.void) where
      opens_well : (opening_for spelled room).void ≡ None
      opens_well = ap (λ (p : Opening). p.void) (sym asked) ∙ not_void o.void u free

      module _ (es : List Event) (w : Whole o (vec_items rec.actions) es) where
        pub ready : Ready t room spelled es
        ready = let Q : Opening → Type 0 = λ p. Whole p (vec_items rec.actions) es in record { right = h.1; opens = opens_well; whole = subst Q asked w }

        begins : Begins t spelled rec.rule_place
        begins =
            let Q : List ℕ → Type 0 = λ l. (at : ℕ) × (length t ≡ at + length l + 2) × (rec.rule_place ≡ byte_place t at) in
            subst Q h.2.spells (h.2.at, h.2.ends, h.2.place)

        -- the rule judged, as it stands in the recording
        pub ruled : (p : Opening) (r : Result Judgement Fault) (rows' : List SearchRow) (list' : List ℕ) → p ≡ o
            → Ruled p es rec.rule.now rec.rule_place rows list r rows' list'
            → Ruled (opening_for spelled room) es (rule_text spelled) rec.rule_place rows list r rows' list'
        ruled p r rows' list' same v =
            let P : Opening → Type 0 = λ x. Ruled x es rec.rule.now rec.rule_place rows list r rows' list' in
            let Q : List ℕ → Type 0 = λ x. Ruled (opening_for spelled room) es x rec.rule_place rows list r rows' list' in
            subst Q h.2.spells (subst P (same ∙ asked) v)

        at_fault : (f : Fault) (rows' : List SearchRow) (list' : List ℕ)
            → Ruled (opening_for spelled room) es (rule_text spelled) rec.rule_place rows list (Err f) rows' list' → Predicted t room rows list (faulted f) rows' list'
        at_fault (Text cause) rows' list' v = absurd v
        at_fault (Record cause at) rows' list' v = absurd v
        at_fault (Search why) rows' list' v = (spelled, es, ready, (rec.rule_place, v))
        at_fault (Rule cause at) rows' list' v =
            let Q : Place → Type 0 = λ x. Begins t spelled x in
            (spelled, es, ready, subst Q (sym v.1) begins, (v.0, refl, v.2, v.3))

        pub stopped_ruling : (r : Result Prediction Stop) (s : Stop) (f : Fault) (rows' : List SearchRow) (list' : List ℕ) → r ≡ Err s → s ≡ Faulty f
            → Ruled (opening_for spelled room) es (rule_text spelled) rec.rule_place rows list (Err f) rows' list' → Predicted t room rows list r rows' list'
        stopped_ruling r s f rows' list' e q v =
            let P : Result Prediction Stop → Type 0 = λ x. Predicted t room rows list x rows' list' in
            subst P (sym (e ∙ ap Err q)) (at_fault f rows' list' v)

        pub counted : (n : ℕ) → n ≡ length (vec_items rec.actions) → n ≡ length es
        counted n count = count ∙ ap length (sym w.all) ∙ length-map es action_of
