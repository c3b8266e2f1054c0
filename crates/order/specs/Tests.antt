-- The definitions as tests that compute.
use Rattle.std.specs.Prelude.{ℕ, zero, suc, Bool, true, false, not, ◌&&◌, ◌||◌, ltb, List, [], ◌∷◌, length, ◌==◌, nat_eq, nat_le, nat_lt, slice_index}
use Rattle.events.specs.declared.event.Event.{Event}
use Rattle.order.specs.Trace.{thread_at, place_at, kind_at, subject_at}
use Rattle.order.specs.Groups.{Group}
use Rattle.order.specs.Groups.Group.{led, starting}
use Rattle.order.specs.Cuts.{Cut, empty_cut, advance}
use Rattle.order.specs.Clocks.{clock_at}

-- every, or some, number below n passes
abbrev pub every : (ℕ → Bool) → ℕ → Bool
every p zero = true
every p (suc n) = p n && every p n

abbrev pub some : (ℕ → Bool) → ℕ → Bool
some p zero = false
some p (suc n) = p n || some p n

abbrev pub is : List Event → ℕ → ℕ → ℕ → Bool
is es k s i = nat_lt i (length es) && (kind_at es i == k && subject_at es i == s)

abbrev pub none_between : ℕ → ℕ → (ℕ → Bool) → Bool
none_between e f p = every (λ k. not (nat_lt e k && p k)) f

abbrev pub of_variable : List Event → ℕ → ℕ → Bool
of_variable es x i = is es 1 x i || is es 2 x i

abbrev pub of_lock : List Event → ℕ → ℕ → Bool
of_lock es l i = is es 3 l i || is es 4 l i

-- e feeds f, where e is of subject s
abbrev pub feeds_at : List Event → ℕ → ℕ → ℕ → Bool
feeds_at es s e f =
    (is es 2 s e && (is es 1 s f && (nat_lt e f && none_between e f (is es 2 s))))
    || (is es 3 s e && (is es 4 s f && (nat_lt e f && none_between e f (of_lock es s))))

abbrev pub feeds : List Event → ℕ → ℕ → Bool
feeds es e f = feeds_at es (subject_at es e) e f

-- e is another event than f, and within f's clock
abbrev pub before : List Event → ℕ → ℕ → Bool
before es e f =
    nat_lt e (length es) && (nat_lt f (length es) && (not (e == f) && nat_le (place_at es e) (clock_at es f (thread_at es e))))

abbrev pub leads : List Event → ℕ → Bool
leads es e = is es 2 (subject_at es e) e || is es 3 (subject_at es e) e

abbrev pub member : List Event → Group → ℕ → Bool
member es (led e) i = (leads es e && i == e) || feeds es e i
member es (starting x) i = is es 1 x i && every (λ k. not (is es 2 x k)) i

-- e and i are of one variable or lock, which is subject s
abbrev pub shares_at : List Event → ℕ → ℕ → ℕ → Bool
shares_at es s e i = (of_variable es s e && of_variable es s i) || (of_lock es s e && of_lock es s i)

abbrev pub touches : List Event → Group → ℕ → Bool
touches es (led e) i = shares_at es (subject_at es e) e i
touches es (starting x) i = of_variable es x i

-- event i is in the cut
abbrev pub in_cut : List Event → Cut → ℕ → Bool
in_cut es c i = nat_le (place_at es i) (c (thread_at es i))

abbrev pub has : List Event → Cut → Group → Bool
has es c g = some (λ i. member es g i && in_cut es c i) (length es)

abbrev pub lacks : List Event → Cut → Group → Bool
lacks es c g = some (λ i. member es g i && not (in_cut es c i)) (length es)

abbrev pub is_open : List Event → Cut → Group → Bool
is_open es c (led e) = has es c (led e) && lacks es c (led e)
is_open es c (starting x) = lacks es c (starting x)

-- the group is another group of event i's variable or lock, and open
abbrev pub blocks : List Event → Cut → ℕ → Group → Bool
blocks es c i g = touches es g i && (not (member es g i) && is_open es c g)

abbrev pub may_follow : List Event → Cut → ℕ → Bool
may_follow es c i =
    nat_lt i (length es)
    && (place_at es i == suc (c (thread_at es i))
    && (every (λ j. not (before es j i && not (in_cut es c j))) (length es)
    && (every (λ e. not (blocks es c i (led e))) (length es)
    && not (blocks es c i (starting (subject_at es i))))))

abbrev pub accepts_from : List Event → Cut → List ℕ → Bool
accepts_from es c [] = every (in_cut es c) (length es)
accepts_from es c (t ∷ ts) = some (λ i. may_follow es c i && thread_at es i == t) (length es) && accepts_from es (advance t c) ts

abbrev pub accepts : List Event → List ℕ → Bool
accepts es ts = accepts_from es empty_cut ts

-- Consistent runs. r has each noted event, and each once:
abbrev pub ordering : List Event → List ℕ → Bool
ordering es r =
    every (λ k. ltb (slice_index r k) (length es)) (length r)
    && (every (λ i. some (λ k. nat_eq (slice_index r k) i) (length r)) (length es)
    && every (λ j. every (λ k. not (slice_index r j == slice_index r k && not (j == k))) (length r)) (length r))

-- what is before an event stands ahead of it
abbrev pub in_order : List Event → List ℕ → Bool
in_order es r = every (λ j. every (λ k. not (before es (slice_index r j) (slice_index r k) && not (nat_lt j k))) (length r)) (length r)

-- the event at k is of the group's variable or lock, and from outside the group
abbrev pub outside : List Event → List ℕ → Group → ℕ → Bool
outside es r g k = touches es g (slice_index r k) && not (member es g (slice_index r k))

-- between two events of the group there is none such
abbrev pub together : List Event → List ℕ → Group → Bool
together es r g =
    every (λ l. every (λ k. every (λ j.
    not (member es g (slice_index r j) && (member es g (slice_index r l) && outside es r g k))) k) l) (length r)

-- nor is there any ahead of an event of variable x's starting group
abbrev pub starts_first : List Event → List ℕ → ℕ → Bool
starts_first es r x =
    every (λ j. every (λ k.
    not (member es (starting x) (slice_index r j) && (outside es r (starting x) k && not (nat_lt j k)))) (length r)) (length r)

abbrev pub consistent : List Event → List ℕ → Bool
consistent es r =
    ordering es r
    && (in_order es r
    && every (λ e. together es r (led e) && (together es r (starting (subject_at es e)) && starts_first es r (subject_at es e))) (length es))
