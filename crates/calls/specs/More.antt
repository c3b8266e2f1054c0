-- Lists of calls that go on.
use Rattle.std.specs.Prelude.{◌≡◌, List, [], ◌∷◌, ◌++◌}
use Rattle.events.specs.declared.event.Event.{Event}
use Rattle.events.specs.Noting.{Opening}
use Rattle.calls.specs.Acts.{Act, Outcome, Gives, after, Performed}

-- Whatever list of calls led to a trace opened with o that has noted es, that list with these calls at its end, and their outcomes at the end
-- of its own, leads to the trace after them: opened with p, with fs noted.
pub record Extends (o : Opening) (es : List Event) (acts : List Act) (outs : List Outcome) (p : Opening) (fs : List Event) : Type 0 where
  pub opens : p ≡ o
  pub longer : (before : List Event) (earlier : List Act) (theirs : List Outcome) → Performed o before earlier theirs es
      → Performed p before (earlier ++ acts) (theirs ++ outs) fs

-- one call more
abbrev pub OneMore : Opening → List Event → Act → Outcome → Opening → List Event → Type 0
OneMore o es a q p fs = Extends o es (a ∷ []) (q ∷ []) p fs

-- each call that gives what it may extends every list,
abbrev pub EveryCallExtends : Type 0
EveryCallExtends = (o : Opening) (es : List Event) (a : Act) (q : Outcome) → Gives o es a q → OneMore o es a q o (after o es a)

-- and so does every list that was performed.
abbrev pub EveryListExtends : Type 0
EveryListExtends = (o : Opening) (es : List Event) (acts : List Act) (outs : List Outcome) (left : List Event)
    → Performed o es acts outs left → Extends o es acts outs o left
