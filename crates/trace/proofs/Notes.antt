-- What a note gives, from what its state and its rows give.
use Rattle.std.proofs.Common.{◌≡◌, ℕ, suc, ◌<◌, Bool, true, cond, ltb, leb, [], ◌∷◌, ◌++◌, length, set, Some, None, Ok, Err, Option, sym, ap, ◌∙◌, subst, arith}
use Rattle.std.proofs.lemmas.Bool.{leb-false, cond-true}
use Rattle.std.proofs.lemmas.Option.{none-some}
use Rattle.std.proofs.lemmas.List.{length-set, length-take-le}
use Rattle.events.specs.declared.event.Action.{Action}
use Rattle.events.specs.declared.event.Event.{Event}
use Rattle.events.specs.declared.refusal.Refusal.{Refusal}
use Rattle.events.specs.declared.refusal.Refusal.TheVariants as refusal
use Rattle.events.specs.Events.{event_at}
use Rattle.events.specs.First.{first_fit}
use Rattle.events.specs.Noting.{is_void, count_of, noting, answer, extended}
use Rattle.rows.specs.Listed.{lent, count, listed, roomy}
use Rattle.rows.specs.declared.list.Rows.{Rows}
use Rattle.trace.specs.Settings.{opening_with}
use Rattle.trace.specs.declared.state.State.{State}
use Rattle.trace.specs.declared.Trace.{Trace}
use Rattle.trace.specs.Meaning.{opening_of, noted_of, rows_of, refused_by, rows_after, KeptBy}
use Rattle.trace.specs.Fields.{opening_in}
use Rattle.trace.specs.Steps.{step_tests, next_place, placed, stepped}
use Rattle.trace.proofs.Bounds.{few_threads}
use Rattle.trace.proofs.Invariant.{Kept}
use Rattle.trace.proofs.Grows.{kept_more}
use Rattle.trace.proofs.Same.{same_trace}
use Rattle.trace.proofs.Agrees.{refused_is}
use Rattle.trace.proofs.Fits.{fit_none, step_spare, placed_err, placed_ok}

refused_by_lem : (t : Trace) (a : Action) (spare : Bool) → spare ≡ roomy t.rows → refused_by t a ≡ first_fit (step_tests t.state spare a)
refused_by_lem t a spare e = refused_is t a ∙ ap (λ (b : Bool). first_fit (step_tests t.state b a)) (sym e)

note_refused : (t : Trace) (a : Action) (spare : Bool) (why : Refusal) → spare ≡ roomy t.rows
    → Err why ≡ placed (first_fit (step_tests t.state spare a)) (next_place t.state a.thread) → refused_by t a ≡ Some why
note_refused t a spare why e h = refused_by_lem t a spare e ∙ placed_err (first_fit (step_tests t.state spare a)) (next_place t.state a.thread) why h

record Taken (t : Trace) (a : Action) (place : ℕ) : Type 0 where
  pub not_refused_lem : refused_by t a ≡ None
  pub row_left : roomy t.rows ≡ true
  pub place_is : place ≡ suc (count_of a.thread (noted_of t))

note_taken : (t : Trace) (a : Action) (spare : Bool) (place : ℕ) → spare ≡ roomy t.rows
    → Ok place ≡ placed (first_fit (step_tests t.state spare a)) (next_place t.state a.thread) → Taken t a place
note_taken t a spare place e h =
    let p = placed_ok (first_fit (step_tests t.state spare a)) (next_place t.state a.thread) place h in
    let r : refused_by t a ≡ None = refused_by_lem t a spare e ∙ p.0 in
    let void = fit_none (is_void (opening_of t)) refusal.Void _ r in
    let thread = fit_none (leb (opening_of t).threads a.thread) refusal.Thread _ void.1 in
    let mine : a.thread < 8 = omega (arith, leb-false (opening_of t).threads a.thread thread.0, few_threads t.state.setting (length (lent t.rows))) in
    record {
      not_refused_lem = r;
      row_left = sym e ∙ step_spare t.state spare a p.0;
      place_is = p.1 ∙ ap suc (t.counts a.thread mine);
    }

pub left_all : (o : Option Refusal) (why : Refusal) (t u : Trace) → o ≡ Some why → u.state ≡ t.state → u.rows ≡ t.rows → KeptBy o t u
left_all (Some w) why t u h s r = same_trace t u s r
left_all None why t u h s r = absurd (none-some why h)

pub left_none : (o : Option Refusal) (t u : Trace) → o ≡ None → KeptBy o t u
left_none (Some w) t u h = absurd (none-some w (sym h))
left_none None t u h = tt

-- what an accepted action gives
pub record Grown (t : Trace) (a : Action) (place : ℕ) (s : State) (rows : Rows Event) : Type 0 where
  pub not_refused_lem : refused_by t a ≡ None
  pub says : Ok place ≡ answer (refused_by t a) (noted_of t) a
  pub noted_is : listed rows ≡ extended (refused_by t a) (noted_of t) a
  pub opening_is : opening_in s rows ≡ opening_of t
  pub rows_are : lent rows ≡ rows_after (refused_by t a) t a
  pub keeps : Kept s rows

note_grown : (t : Trace) (a : Action) (spare : Bool) (place : ℕ) (s : State) (rows : Rows Event) → spare ≡ roomy t.rows
    → Ok place ≡ placed (first_fit (step_tests t.state spare a)) (next_place t.state a.thread)
    → s ≡ stepped t.state a
    → lent rows ≡ cond (roomy t.rows) (set (lent t.rows) (count t.rows) (event_at place a)) (lent t.rows)
    → listed rows ≡ cond (roomy t.rows) (listed t.rows ++ event_at place a ∷ []) (listed t.rows)
    → Grown t a place s rows
note_grown t a spare place s rows e h next lents lists =
    let es = noted_of t in
    let p = note_taken t a spare place e h in
    let row : event_at place a ≡ noting es a = ap (λ (n : ℕ). event_at n a) p.place_is in
    let more : listed rows ≡ es ++ noting es a ∷ [] = lists ∙ cond-true _ _ _ p.row_left ∙ ap (λ (d : Event). es ++ d ∷ []) row in
    let size : count t.rows ≡ length es = sym (length-take-le (count t.rows) (lent t.rows) t.rows.within) in
    let whole : lent rows ≡ set (rows_of t) (length es) (noting es a)
    = lents ∙ cond-true _ _ _ p.row_left ∙ ap (λ (n : ℕ). set (rows_of t) n (event_at place a)) size ∙ ap (set (rows_of t) (length es)) row in
    let room : length (lent rows) ≡ length (lent t.rows) = ap length whole ∙ length-set (rows_of t) (length es) (noting es a) in
    record {
      not_refused_lem = p.not_refused_lem;
      says = ap Ok p.place_is ∙ sym (ap (λ (o : Option Refusal). answer o es a) p.not_refused_lem);
      noted_is = more ∙ sym (ap (λ (o : Option Refusal). extended o es a) p.not_refused_lem);
      opening_is = ap (λ (q : State). opening_in q rows) next ∙ ap (opening_with t.state.setting) room;
      rows_are = whole ∙ sym (ap (λ (o : Option Refusal). rows_after o t a) p.not_refused_lem);
      keeps = subst (λ (q : State). Kept q rows) (sym next) (kept_more t rows a p.not_refused_lem more room);
    }

spare_is : (t : Trace) (len all : ℕ) → len ≡ count t.rows → all ≡ length (lent t.rows) → ltb len all ≡ roomy t.rows
spare_is t len all e f = ap (λ (n : ℕ). ltb n all) e ∙ ap (ltb (count t.rows)) f

-- from the calls that a note makes: len and all are how many rows are used and lent, and row is the one that is added
pub note_gives : (t : Trace) (a : Action) (len all place : ℕ) (row : Event) (s : State) (rows : Rows Event)
    → len ≡ count t.rows → all ≡ length (lent t.rows)
    → Ok place ≡ placed (first_fit (step_tests t.state (ltb len all) a)) (next_place t.state a.thread)
    → s ≡ stepped t.state a
    → row ≡ event_at place a
    → lent rows ≡ cond (roomy t.rows) (set (lent t.rows) (count t.rows) row) (lent t.rows)
    → listed rows ≡ cond (roomy t.rows) (listed t.rows ++ row ∷ []) (listed t.rows)
    → Grown t a place s rows
note_gives t a len all place row s rows used lents says next is lent_is listed_is =
    note_grown t a (ltb len all) place s rows (spare_is t len all used lents) says next
    (lent_is ∙ ap (λ (d : Event). cond (roomy t.rows) (set (lent t.rows) (count t.rows) d) (lent t.rows)) is)
    (listed_is ∙ ap (λ (d : Event). cond (roomy t.rows) (listed t.rows ++ d ∷ []) (listed t.rows)) is)

pub note_refuses : (t : Trace) (a : Action) (len all : ℕ) (why : Refusal) → len ≡ count t.rows → all ≡ length (lent t.rows)
    → Err why ≡ placed (first_fit (step_tests t.state (ltb len all) a)) (next_place t.state a.thread) → refused_by t a ≡ Some why
note_refuses t a len all why used lents says = note_refused t a (ltb len all) why (spare_is t len all used lents) says
