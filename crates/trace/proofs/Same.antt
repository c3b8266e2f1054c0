-- Traces with the same state and the same rows are one, since each fact of the invariant has one proof at most.
use Rattle.std.proofs.Common.{◌≡◌, true, length, ap, ◌∙◌, subst}
use denote.Struct.Props.{props}
use Rattle.events.specs.declared.event.Event.{Event}
use Rattle.events.specs.Accepted.{accepted}
use Rattle.rows.specs.declared.list.Rows.{Rows}
use Rattle.rows.specs.Listed.{listed}
use Rattle.trace.specs.declared.state.State.{State}
use Rattle.trace.specs.declared.Trace.{Trace}
use Rattle.trace.specs.Fields.{opening_in, Valued, Locked, Counted}

abbrev Sizes : State → Type 0
Sizes s = (length s.values ≡ 32) × (length s.locks ≡ 16) × (length s.counts ≡ 8)

abbrev Values : State → Rows Event → Type 0
Values s r = Valued (opening_in s r) (listed r) s.values

abbrev Accepted : State → Rows Event → Type 0
Accepted s r = accepted (opening_in s r) (listed r) ≡ true

sizes_prop : (s : State) → IsProp (Sizes s)
sizes_prop s = hlevel props

values_prop : (s : State) (r : Rows Event) → IsProp (Values s r)
values_prop s r = hlevel props

locks_prop : (s : State) (r : Rows Event) → IsProp (Locked (listed r) s.locks)
locks_prop s r = hlevel props

counts_prop : (s : State) (r : Rows Event) → IsProp (Counted (listed r) s.counts)
counts_prop s r = hlevel props

accepted_prop : (s : State) (r : Rows Event) → IsProp (Accepted s r)
accepted_prop s r = hlevel props

abbrev make : (s : State) (r : Rows Event) → Sizes s → Values s r → Locked (listed r) s.locks → Counted (listed r) s.counts → Accepted s r → Trace
make s r a b c d e = record { state = s; rows = r; sizes = a; values = b; locks = c; counts = d; noted = e }

pub same_trace : (t u : Trace) → u.state ≡ t.state → u.rows ≡ t.rows → u ≡ t
same_trace t u at_state at_rows =
    let one : (a : Sizes u.state) (b : Values u.state u.rows) (c : Locked (listed u.rows) u.state.locks) (d : Counted (listed u.rows) u.state.counts) (e : Accepted u.state u.rows) → u ≡ make u.state u.rows a b c d e
    = λ a b c d e.
    ap (λ x. make u.state u.rows x u.values u.locks u.counts u.noted) (sizes_prop u.state u.sizes a)
    ∙ ap (λ x. make u.state u.rows a x u.locks u.counts u.noted) (values_prop u.state u.rows u.values b)
    ∙ ap (λ x. make u.state u.rows a b x u.counts u.noted) (locks_prop u.state u.rows u.locks c)
    ∙ ap (λ x. make u.state u.rows a b c x u.noted) (counts_prop u.state u.rows u.counts d)
    ∙ ap (λ x. make u.state u.rows a b c d x) (accepted_prop u.state u.rows u.noted e) in
    let state_one = subst (λ (s : State). (a : Sizes s) (b : Values s u.rows) (c : Locked (listed u.rows) s.locks) (d : Counted (listed u.rows) s.counts) (e : Accepted s u.rows) → u ≡ make s u.rows a b c d e) at_state one in
    let all_one = subst (λ (r : Rows Event). (a : Sizes t.state) (b : Values t.state r) (c : Locked (listed r) t.state.locks) (d : Counted (listed r) t.state.counts) (e : Accepted t.state r) → u ≡ make t.state r a b c d e) at_rows state_one in
    all_one t.sizes t.values t.locks t.counts t.noted
