-- Every list of calls is lawful.
use Rattle.std.proofs.Common.{◌≡◌, ℕ, ◌<◌, ◌≤◌, List, [], length, Some, Ok, Result, sym, refl, ap, ◌∙◌, subst, ap₂, arith}
use Rattle.std.specs.List.{slice_get}
use Rattle.std.proofs.lemmas.Option.{slice_get_within}
use Rattle.events.specs.declared.event.Event.{Event}
use Rattle.events.specs.Noting.{Opening, opened, Noted}
use Rattle.events.specs.Noting.Noted.{none}
use Rattle.order.specs.declared.row.Row.{Row}
use Rattle.order.proofs.Noting.{opened_small}
use Rattle.monitor.specs.declared.runs.Verdict.{Verdict}
use Rattle.monitor.specs.Meaning.{Meaning}
use Rattle.replay.specs.declared.refusal.ReplayRefusal.{ReplayRefusal}
use Rattle.mapping.specs.declared.refusal.MapRefusal.{MapRefusal}
use Rattle.mapping.specs.Mapped.{Mapped}
use Rattle.mapping.proofs.Laws.{equal_mapped, one_mapped}
use Rattle.judge.specs.declared.refusal.JudgeRefusal.{JudgeRefusal}
use Rattle.judge.specs.declared.row.SearchRow.{SearchRow}
use Rattle.judge.specs.declared.verdict.Judgement.{Judgement}
use Rattle.judge.specs.Judging.{Judged}
use Rattle.judge.specs.Said.{SaysNone, SaysFound}
use Rattle.judge.proofs.Saying.{judged_says}
use Rattle.judge.proofs.Once.{judged_once}
use Rattle.calls.specs.Replays.{Replays}
use Rattle.calls.specs.Acts.{Act, to_note, to_map, to_replay, to_judge, Outcome, gave_map, gave_replay, gave_judge, Gives, ahead, Performed}
use Rattle.calls.specs.Law.{MapAt, JudgeAt, MapsTell, Lawful, EveryListLawful, LawfulFromOpening}
use Rattle.calls.proofs.Places.{nth_has, same_places}
use Rattle.calls.proofs.Replayed.{one_replay, granted}
use Rattle.calls.proofs.Rising.{noted_ahead}

-- the relation of a call from what it gave
gave_map_lem : (o : Opening) (es : List Event) (before : List Row) (r : Result ℕ MapRefusal) (after : List Row)
    → Gives o es (to_map before) (gave_map r after) → Mapped o es before r after
gave_map_lem o es before r after g =
    let e = g.2 in
    let a : g.0 ≡ r = cc in
    let b : g.1 ≡ after = cc in
    subst (λ (x : Result ℕ MapRefusal). Mapped o es before x after) a (subst (λ (y : List Row). Mapped o es before g.0 y) b g.3)

gave_replay_lem : (o : Opening) (es : List Event) (m : Meaning) (ts : List ℕ) (r : Result Verdict ReplayRefusal)
    → Gives o es (to_replay m ts) (gave_replay r) → Replays o es m ts r
gave_replay_lem o es m ts r g =
    let e = g.1 in
    let a : g.0 ≡ r = cc in
    subst (λ (x : Result Verdict ReplayRefusal). Replays o es m ts x) a g.2

gave_judge_lem : (o : Opening) (es : List Event) (m : Meaning) (rows : List SearchRow) (list : List ℕ)
    → (r : Result Judgement JudgeRefusal) (rows' : List SearchRow) (list' : List ℕ)
    → Gives o es (to_judge m rows list) (gave_judge r rows' list') → Judged o es m rows list r rows' list'
gave_judge_lem o es m rows list r rows' list' g =
    let e = g.3 in
    let a : g.0 ≡ r = cc in
    let b : g.1 ≡ rows' = cc in
    let c : g.2 ≡ list' = cc in
    subst (λ (x : Result Judgement JudgeRefusal). Judged o es m rows list x rows' list') a
    (subst (λ (y : List SearchRow). Judged o es m rows list g.0 y list') b (subst (λ (z : List ℕ). Judged o es m rows list g.0 g.1 z) c g.4))

-- one outcome may be given
one_given : (o : Opening) (es : List Event) → Noted o es → o.threads ≤ 8 → (a : Act) (q s : Outcome) → Gives o es a q → Gives o es a s → q ≡ s
one_given o es noted few (to_note a) q s x y = x ∙ sym y
one_given o es noted few (to_map before) q s x y =
    let u = one_mapped o es noted before x.1 y.1 x.0 y.0 x.3 y.3 in
    x.2 ∙ ap₂ gave_map u.0 u.1 ∙ sym y.2
one_given o es noted few (to_replay m ts) q s x y = x.1 ∙ ap gave_replay (one_replay o es noted m ts x.0 y.0 x.2 y.2) ∙ sym y.1
one_given o es noted few (to_judge m rows list) q s x y =
    let u = judged_once o es m noted few rows list x.0 y.0 x.1 y.1 x.2 y.2 x.4 y.4 in
    x.3
    ∙ ap₂ (λ (r : Result Judgement JudgeRefusal) (v : List SearchRow). gave_judge r v x.2) u.0 u.1
    ∙ ap (gave_judge y.0 y.1) u.2 ∙ sym y.3

-- a granted map of a list of calls
mapped_at : (o : Opening) (es : List Event) (acts : List Act) (outs : List Outcome) (left : List Event) → Performed o es acts outs left
    → (k : ℕ) (v : List Row) (a : MapAt acts outs k v) → Mapped o (ahead o es acts k) a.before (Ok a.count) a.after
mapped_at o es acts outs left p k v a =
    gave_map_lem o (ahead o es acts k) a.before (Ok a.count) a.after
    (p.each k (to_map a.before) (gave_map (Ok a.count) a.after) a.asked a.granted)

maps_tell : (o : Opening) (es : List Event) (acts : List Act) (outs : List Outcome) (left : List Event) → Noted o es → Performed o es acts outs left
    → (p : Opening) (fs : List Event) (others : List Act) (theirs : List Outcome) (last : List Event) → Noted p fs → Performed p fs others theirs last
    → MapsTell (ahead o es acts) acts outs (ahead p fs others) others theirs
maps_tell o es acts outs left n x p fs others theirs last m y i j v w a b =
    let u = equal_mapped o p (ahead o es acts i) (ahead p fs others j) (noted_ahead o es acts i n) (noted_ahead p fs others j m)
    a.before a.after b.before b.after a.count b.count (mapped_at o es acts outs left x i v a) (mapped_at p fs others theirs last y j w b) in
    (λ e. u.0 (sym a.front ∙ e ∙ b.front), λ r. a.front ∙ u.1 r ∙ sym b.front)

module _ (o : Opening) (es : List Event) (acts : List Act) (outs : List Outcome) (left : List Event)
    (noted : Noted o es) (few : o.threads ≤ 8) (p : Performed o es acts outs left) where
  said : (k : ℕ) (m : Meaning) (j : Judgement) (list : List ℕ) → JudgeAt acts outs k m j list
      → SaysNone (ahead o es acts k) m (Ok j) × SaysFound (ahead o es acts k) m (Ok j) list
  said k m j list a =
      let fs : List Event = ahead o es acts k in
      judged_says o fs m (record { noted = noted_ahead o es acts k noted; few = few; threads = refl }) a.rows a.threads (Ok j) a.after list
      (gave_judge_lem o fs m a.rows a.threads (Ok j) a.after list
      (p.each k (to_judge m a.rows a.threads) (gave_judge (Ok j) a.after list) a.asked a.granted))

  only : (k : ℕ) (a : Act) (q : Outcome) → slice_get acts k ≡ Some a → Gives o (ahead o es acts k) a q → slice_get outs k ≡ Some q
  only k a q h g =
      let there : k < length outs = omega (arith, slice_get_within acts k a h, p.as_many) in
      let s = nth_has outs k there in
      s.1 ∙ ap Some (one_given o (ahead o es acts k) (noted_ahead o es acts k noted) few a s.0 q (p.each k a s.0 h s.1) g)

  again : (others : List Outcome) (last : List Event) → Performed o es acts others last → others ≡ outs
  again others last w =
      same_places others outs (w.as_many ∙ sym p.as_many)
      (λ k x y h g.
      let there : k < length acts = omega (arith, slice_get_within others k x h, w.as_many) in
      let a = nth_has acts k there in
      one_given o (ahead o es acts k) (noted_ahead o es acts k noted) few a.0 x y (w.each k a.0 x a.1 h) (p.each k a.0 y a.1 g))

  pub held : Lawful o es acts outs
  held = record {
    maps = maps_tell o es acts outs left noted p o es acts outs left noted p;
    other_maps = maps_tell o es acts outs left noted p;
    none = λ k m j list a. (said k m j list a).0;
    found = λ k m j list a. (said k m j list a).1;
    replays = λ k ts r a.
        granted o (ahead o es acts k) a.monitor ts r
        (gave_replay_lem o (ahead o es acts k) a.monitor ts r (p.each k (to_replay a.monitor ts) (gave_replay r) a.asked a.answered));
    one = only;
    fixed = again;
  }

pub lawful : EveryListLawful
lawful o es acts outs left noted few p = held o es acts outs left noted few p

pub lawful_from_opening : LawfulFromOpening
lawful_from_opening threads starts room acts outs left p =
    lawful (opened threads starts room) [] acts outs left none (opened_small threads starts room).0 p
