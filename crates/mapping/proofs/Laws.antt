-- What is so of all maps that are written.
use Rattle.std.proofs.Common.{◌≡◌, ℕ, ◌<◌, ◌≤◌, cond, eqb, ltb, List, ◌++◌, length, take, drop, Some, None, Ok, Option, Result, sym, ◌∙◌, subst, ap₂, arith}
use Rattle.std.proofs.lemmas.List.{take-append-drop}
use Rattle.std.proofs.lemmas.Bool.{cond_both, cond-false, ne_eqb, le-ltb}
use Rattle.events.specs.declared.event.Event.{Event}
use Rattle.events.specs.First.{first_fit}
use Rattle.events.specs.Noting.{Opening, subjects, Noted}
use Rattle.order.specs.declared.row.Row.{Row}
use Rattle.order.specs.Trace.{kind_at}
use Rattle.order.specs.Maps.{MapOf}
use Rattle.order.specs.Runs.{RunAmong}
use Rattle.order.proofs.Noting.{sound_of, within_of}
use Rattle.order.proofs.Maps.{equal_maps}
use Rattle.order.proofs.Mapped.{one_map}
use Rattle.mapping.specs.declared.refusal.MapRefusal.{MapRefusal}
use Rattle.mapping.specs.Rows.{Mappable}
use Rattle.mapping.specs.Mapped.{map_tests, MappedAs, EqualMapped, OneMapped}

-- a granted map
granted : (x : Option MapRefusal) (es : List Event) (before after : List Row) (m : ℕ) → MappedAs x es before (Ok m) after
    → (length es ≡ m) × MapOf es (take (length es) after)
granted (Some why) es before after m h = let e = h.0 in cc
granted None es before after m h = let e = h.0 in ((cc), h.1)

pub equal_mapped : EqualMapped
equal_mapped o p es fs a b before after before' after' m n g h =
    let x = granted (first_fit (map_tests o es (length before))) es before after m g in
    let y = granted (first_fit (map_tests p fs (length before'))) fs before' after' n h in
    let R : Type 0 = RunAmong es fs in
    let both : (take (length es) after ≡ take (length fs) after' → R) × (R → take (length es) after ≡ take (length fs) after')
    = equal_maps es fs (sound_of o es a) (sound_of p fs b) (take (length es) after) (take (length fs) after') x.1 y.1 in
    subst (λ i. (take i after ≡ take n after' → R) × (R → take i after ≡ take n after')) x.0
    (subst (λ i. (take (length es) after ≡ take i after' → R) × (R → take (length es) after ≡ take i after')) y.0 both)

one_as : (x : Option MapRefusal) (o : Opening) (es : List Event) → Noted o es
    → (before after after' : List Row) (r s : Result ℕ MapRefusal) → MappedAs x es before r after → MappedAs x es before s after'
    → (r ≡ s) × (after ≡ after')
one_as (Some why) o es n before after after' r s g h = (g.0 ∙ sym h.0, g.1 ∙ sym h.1)
one_as None o es n before after after' r s g h =
    let k = length es in
    let t : take k after ≡ take k after' = one_map es (sound_of o es n) (take k after) (take k after') g.1 h.1 in
    let d : drop k after ≡ drop k after' = g.2 ∙ sym h.2 in
    (g.0 ∙ sym h.0, sym (take-append-drop k after) ∙ ap₂ (λ (a b : List Row). a ++ b) t d ∙ take-append-drop k after')

pub one_mapped : OneMapped
one_mapped o es n before after after' r s = one_as (first_fit (map_tests o es (length before))) o es n before after after' r s

subjects_few : (o : Opening) (k : ℕ) → length o.starts ≤ 32 → subjects o k ≤ 32
subjects_few o k h =
    cond_both (eqb k 0) 32 (cond (ltb k 3) (length o.starts) 16) (λ n. n ≤ 32) (λ e. omega arith)
    (λ e. cond_both (ltb k 3) (length o.starts) 16 (λ n. n ≤ 32) (λ z. h) (λ z. omega arith))

subjects_lock : (o : Opening) (k : ℕ) → 2 < k → subjects o k ≡ 16
subjects_lock o k h =
    cond-false (eqb k 0) 32 (cond (ltb k 3) (length o.starts) 16) (ne_eqb k 0 (λ e. omega arith))
    ∙ cond-false (ltb k 3) (length o.starts) 16 (le-ltb k 3 (omega arith))

-- a noted list has a map
pub mappable : (o : Opening) (es : List Event) → Noted o es → o.threads ≤ 8 → length o.starts ≤ 32 → Mappable es
mappable o es n a b =
    let w = within_of o es n in
    record {
      sound = sound_of o es n;
      bounded = λ i h. record {
        thread = omega (arith, w.threads i h);
        variable = omega (arith, w.subjects_below i h, subjects_few o (kind_at es i) b);
        lock = λ l. omega (arith, w.subjects_below i h, subjects_lock o (kind_at es i) l);
        first = omega (arith, (sound_of o es n).places i h);
        place = w.places i h;
      };
    }
