-- What a state refuses is what the trace's opening and its noted events refuse.
use Rattle.std.proofs.Common.{◌≡◌, ℕ, ◌<◌, Bool, true, false, cond, not, ◌&&◌, eqb, ltb, leb, List, [], ◌∷◌, length, get_or, ℤ, Some, Ok, Err, Result, sym, refl, ap, ◌∙◌, arith}
use Rattle.std.proofs.lemmas.List.{length-take-le}
use Rattle.std.proofs.lemmas.Bool.{eqb-true, leb-false, false≢true}
use Rattle.std.proofs.lemmas.Bool.Decides.{nat_tests}
use Rattle.events.specs.declared.event.Action.{Action}
use Rattle.events.specs.declared.lock.Lock.{Lock}
use Rattle.events.specs.declared.lock.Lock.TheVariants.{Free}
use Rattle.events.specs.declared.refusal.OpenRefusal.{OpenRefusal}
use Rattle.events.specs.First.{first_fit}
use Rattle.events.specs.Noting.{Opening, is_void, subjects, eq_z, free, held_by, lock_now, note_tests}
use Rattle.rows.specs.Listed.{lent, count, roomy}
use Rattle.trace.specs.declared.setting.Setting.{Setting}
use Rattle.trace.specs.Settings.{opening_with}
use Rattle.trace.specs.declared.Trace.{Trace}
use Rattle.trace.specs.Meaning.{opening_of, noted_of, refused_by}
use Rattle.trace.specs.Steps.{opening_but_rows, step_tests}
use Rattle.trace.proofs.Bounds.{few_threads, same_void, same_threads, same_starts}

-- Two lists of reasons are alike where their tests agree, each wherever those ahead of it fail.
data Alike {R : Type 0} : List (Bool × R) → List (Bool × R) → Type 0 where
  done : Alike [] []
  agree : {b c : Bool} {r : R} {xs ys : List (Bool × R)} → b ≡ c → (b ≡ false → Alike xs ys) → Alike ((b, r) ∷ xs) ((c, r) ∷ ys)

alike_first : {R : Type 0} (xs ys : List (Bool × R)) → Alike xs ys → first_fit xs ≡ first_fit ys
alike_first _ _ done = refl
alike_first {R} _ _ (agree {b} {c} {r} {xs} {ys} e f) = at b (λ h. alike_first xs ys (f h)) ∙ ap (λ (d : Bool). cond d (Some r) (first_fit ys)) e
  where
    at : (d : Bool) → (d ≡ false → first_fit xs ≡ first_fit ys) → cond d (Some r) (first_fit xs) ≡ cond d (Some r) (first_fit ys)
    at true g = refl
    at false g = g refl

-- conjunctions agree where their second parts do wherever the first holds
both : (b x y : Bool) → (b ≡ true → x ≡ y) → (b && x) ≡ (b && y)
both true x y f = f refl
both false x y f = refl

-- where there is a setting, there is room for as many rows as are lent
room_is : (x : Result Setting OpenRefusal) (n : ℕ) → is_void (opening_with x n) ≡ false → (opening_with x n).room ≡ n
room_is (Ok g) n h = refl
room_is (Err why) n h = absurd (false≢true (sym h))

-- a read's subject is a variable, and that of a lock's event a lock
read_subjects : (o : Opening) (k : ℕ) → eqb k 1 ≡ true → subjects o k ≡ length o.starts
read_subjects o k h = ap (subjects o) (eqb-true k 1 h)

acquire_subjects : (o : Opening) (k : ℕ) → eqb k 3 ≡ true → subjects o k ≡ 16
acquire_subjects o k h = ap (subjects o) (eqb-true k 3 h)

release_subjects : (o : Opening) (k : ℕ) → eqb k 4 ≡ true → subjects o k ≡ 16
release_subjects o k h = ap (subjects o) (eqb-true k 4 h)

pub refused_is : (t : Trace) (a : Action) → refused_by t a ≡ first_fit (step_tests t.state (roomy t.rows) a)
refused_is t a =
    let s = t.state in
    let rows = t.rows in
    let o = opening_of t in
    let es = noted_of t in
    let all = length (lent rows) in
    let many : subjects o a.kind ≡ subjects (opening_but_rows s) a.kind = ap (λ (xs : List ℤ). cond (eqb a.kind 0) 32 (cond (ltb a.kind 3) (length xs) 16)) (same_starts s.setting all 0) in
    alike_first (note_tests o es a) (step_tests s (roomy rows) a)
    (agree (same_void s.setting all 0)
    (λ opened. agree (ap (λ (n : ℕ). leb n a.thread) (same_threads s.setting all 0))
    (λ thread. agree refl
    (λ kind. agree (ap (λ (n : ℕ). leb n a.subject) many)
    (λ subject.
    let below : a.subject < subjects o a.kind = leb-false (subjects o a.kind) a.subject subject in
    let mine : a.thread < 8 = omega (arith, leb-false o.threads a.thread thread, few_threads s.setting all) in
    let lock : a.subject < 16 → lock_now es a.subject ≡ get_or s.locks a.subject Free = λ h. sym (t.locks a.subject h) in
    agree refl
    (λ zero. agree
    (both (eqb a.kind 1) _ _ (λ e. ap (λ (v : ℤ). not (eq_z a.value v)) (sym (t.values a.subject (omega (arith, read_subjects o a.kind e, below))))))
    (λ read. agree
    (both (eqb a.kind 3) _ _ (λ e. ap (λ (l : Lock). not (free l)) (lock (omega (arith, acquire_subjects o a.kind e, below)))))
    (λ held. agree
    (both (eqb a.kind 4) _ _ (λ e. ap (λ (l : Lock). not (held_by a.thread l)) (lock (omega (arith, release_subjects o a.kind e, below)))))
    (λ holder. agree (ap (leb 255) (sym (t.counts a.thread mine)))
    (λ full. agree
    (rows_are o.room (length es) (count rows) (length (lent rows)) (room_is s.setting all opened) (length-take-le (count rows) (lent rows) rows.within))
    (λ none. done)))))))))))
  where
    rows_are : (room n len all : ℕ) → room ≡ all → n ≡ len → leb room n ≡ not (ltb len all)
    rows_are room n len all e f = grind (arith, nat_tests)
