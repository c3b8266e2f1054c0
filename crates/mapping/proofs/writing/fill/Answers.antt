use Rattle.std.proofs.Common.{refl, arith}
use Rattle.mapping.proofs.Filled.{filled_none, small, row_here, Stands, stands, filled_next, filled_map}
use Rattle.mapping.proofs.writing.fill.Goals.{After-note}
use Rattle.mapping.proofs.writing.fill.Goals as goal

pub loop-event-init : goal.loop-event-init
loop-event-init c =
    let none = c.none-latest in
    filled_none c.args.events.now none.result c.args.rows.now none.ensures.clocks none.ensures.writes none.ensures.acquires

pub row-row-requires : goal.row-row-requires
row-row-requires c =
    small c.args.events.now c.requires.fit c.loop-event.event-index c.loop-event-test.true c.loop-event.latest c.loop-event.rows c.args.rows.now c.loop-event.invariant

-- where the event's row stands
here : (c : After-note) → Stands c.args.events.now c.loop-event.event-index c.new-bases.result.starts c.loop-event.rows
here c =
    stands c.args.events.now c.requires.fit c.loop-event.event-index c.loop-event-test.true c.loop-event.latest c.loop-event.rows c.args.rows.now c.loop-event.invariant
    c.new-bases.result.starts c.new-bases.ensures c.requires.room

pub position-at-requires : goal.position-at-requires
position-at-requires c = omega (arith, (here (goal.at.position-at-requires c).After-note).among, c.well_formed)

pub offset_bounds-rows-at : goal.offset_bounds-rows-at
offset_bounds-rows-at c = omega (arith, (here (goal.at.offset_bounds-rows-at c).After-note).within, c.position-at.ensures, c.loop-event.auto.rows, c.well_formed)

pub bounds-rows-at : goal.bounds-rows-at
bounds-rows-at c = omega (arith, (here (goal.at.bounds-rows-at c).After-note).within, c.position-at.ensures)

pub loop-event-preserved : goal.loop-event-preserved
loop-event-preserved c =
    let es = c.args.events.now in
    let k = c.loop-event.event-index in
    let h = c.loop-event-test.true in
    let before = c.loop-event in
    let row = c.row-row in
    let written = row_here es c.requires.fit k h before.latest before.rows c.args.rows.now before.invariant row.result row.ensures.event row.ensures.source (omega (arith, row.type_inv)) row.ensures.clock in
    filled_next es c.requires.fit k h before.latest before.rows c.args.rows.now before.invariant c.new-bases.result.starts c.new-bases.ensures c.requires.room
    c.note.new.self _ row.result c.position-at.result written c.note.ensures.clocks c.note.ensures.writes c.note.ensures.acquires c.position-at.ensures refl

pub returns-clause-map : goal.returns-clause-map
returns-clause-map c =
    filled_map c.args.events.now c.requires.fit c.loop-event.rows (omega (arith, c.loop-event.auto.rows, c.requires.room))
    (λ i l. c.loop-event.invariant.written i (omega (arith, c.loop-event-test.false)))
