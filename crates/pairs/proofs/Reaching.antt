-- The paths of pairs are the paths of cuts, and those to a full cut the consistent runs.
use Rattle.std.proofs.Common.{◌≡◌, ℕ, ◌+◌, ◌<◌, List, [], ◌∷◌, ◌++◌, map, length, get_or, Decides, fold, sym, refl, ap, ◌∙◌, subst, ap₂, arith}
use Rattle.std.proofs.lemmas.List.{append-nil, append_assoc, map-append, length-set}
use Rattle.events.specs.declared.event.Action.{Action}
use Rattle.events.specs.declared.event.Event.{Event}
use Rattle.events.specs.Events.{action_of}
use Rattle.order.specs.Trace.{blank, thread_at}
use Rattle.order.specs.Runs.{Consistent, thread_list, reordered}
use Rattle.order.specs.Cuts.{Cut, advance, In, Full, MayFollow, Reach}
use Rattle.order.specs.Cuts.Reach.{start, onward}
use Rattle.order.specs.Tests.{in_cut}
use Rattle.order.specs.Reached.{cut_of}
use Rattle.order.proofs.Decided.{decides_every, decides_in}
use Rattle.order.proofs.Paths.{runs_are_paths}
use Rattle.order.proofs.Reaching.{paths_are_runs}
use Rattle.explore.specs.System.{Goes, here, along}
use Rattle.monitor.specs.Meaning.{Meaning, ran}
use Rattle.monitor.proofs.Ends.{ran_push}
use Rattle.pairs.specs.declared.pair.Pair.{Pair}
use Rattle.pairs.specs.Pairs.{moved, first_pair, pairs, full}
use Rattle.pairs.specs.Judged.{actions, LeadsTo, Comes, Paths}
use Rattle.pairs.proofs.Steps.{Given, cut_advanced, first_cut, next_is, next_moves}
use Rattle.pairs.proofs.Agreement.{goes_more}

pub decides_full : (es : List Event) (c : List ℕ) → Decides (full es c) (Full es (cut_of c))
decides_full es c = decides_every (in_cut es (cut_of c)) (In es (cut_of c)) (decides_in es (cut_of c)) (length es)

actions_more : (es : List Event) (r : List ℕ) (i : ℕ) → actions es (r ++ i ∷ []) ≡ actions es r ++ action_of (get_or es i blank) ∷ []
actions_more es r i =
    ap (map action_of) (map-append (λ k. get_or es k blank) r (i ∷ [])) ∙ map-append action_of (reordered es r) (get_or es i blank ∷ [])

-- y is where a path p from x leads, and some events, after those of r, lead to its cut
record Onward (es : List Event) (m : Meaning) (x y : Pair) (r p : List ℕ) : Type 0 where
  events : List ℕ
  reach : Reach es (r ++ events) (cut_of y.cut)
  lists : thread_list es events ≡ p
  code : y.code ≡ fold m.step x.code (actions es events)
  wide : length y.cut ≡ 8

module _ (es : List Event) (n : ℕ) (m : Meaning) (g : Given es n) where
  goes_onward : {x y : Pair} {p : List ℕ} → Goes (pairs es n m) x p y → (r : List ℕ) → Reach es r (cut_of x.cut) → length x.cut ≡ 8
      → Onward es m x y r p
  goes_onward (here {n = x}) r h w = record {
    events = [];
    reach = subst (λ q. Reach es q (cut_of x.cut)) (sym (append-nil r)) h;
    lists = refl;
    code = refl;
    wide = w;
  }
  goes_onward (along {n = x} {m = z} {l = y} {a = t} {p = p} st go) r h w =
      let s = next_is es g.sound n m x z t st.1 in
      let i : ℕ = s.event in
      let c : Cut = cut_of x.cut in
      let few = g.few in
      let below : t < n = st.0 in
      let cuts : cut_of z.cut ≡ advance (thread_at es i) c
      = ap (λ (v : Pair). cut_of v.cut) s.is ∙ cut_advanced x.cut t (omega arith) ∙ ap (λ u. advance u c) (sym s.own) in
      let ih = goes_onward go (r ++ i ∷ []) (subst (Reach es (r ++ i ∷ [])) (sym cuts) (onward i h s.follows))
      (ap (λ (v : Pair). length v.cut) s.is ∙ length-set x.cut t (get_or x.cut t 0 + 1) ∙ w) in
      record {
        events = i ∷ ih.events;
        reach = subst (λ q. Reach es q (cut_of y.cut)) (append_assoc r (i ∷ []) ih.events) ih.reach;
        lists = ap₂ (λ u us. u ∷ us) s.own ih.lists;
        code = ih.code ∙ ap (λ (v : Pair). fold m.step v.code (actions es ih.events)) s.is;
        wide = ih.wide;
      }

  -- a path of pairs is a path of cuts
  pub goes_reach : (p : List ℕ) (x : Pair) → LeadsTo es n m p x
      → (r : List ℕ) × Reach es r (cut_of x.cut) × (thread_list es r ≡ p) × (x.code ≡ ran m (actions es r)) × (length x.cut ≡ 8)
  goes_reach p x go =
      let s = goes_onward go [] (subst (Reach es []) (sym first_cut) start) refl in
      (s.events, s.reach, s.lists, s.code, s.wide)

  record Back (r : List ℕ) (c : Cut) : Type 0 where
    pair : Pair
    leads : LeadsTo es n m (thread_list es r) pair
    cut : cut_of pair.cut ≡ c
    code : pair.code ≡ ran m (actions es r)
    wide : length pair.cut ≡ 8

  back : {r : List ℕ} {c : Cut} → Reach es r c → Back r c
  back start = record { pair = first_pair m; leads = here; cut = first_cut; code = refl; wide = refl }
  back (onward {r = r} {c = c} i h may) =
      let ih = back h in
      let x : Pair = ih.pair in
      let t : ℕ = thread_at es i in
      let a : Action = action_of (get_or es i blank) in
      let few = g.few in
      let below = g.threads i may.noted in
      let wide = ih.wide in
      let step = next_moves es g.sound n m x t i (subst (λ d. MayFollow es d i) (sym ih.cut) may) refl in
      record {
        pair = moved m x t (get_or es i blank);
        leads = subst (λ p. LeadsTo es n m p (moved m x t (get_or es i blank))) (sym (map-append (thread_at es) r (i ∷ [])))
            (goes_more (pairs es n m) ih.leads (below, step));
        cut = cut_advanced x.cut t (omega arith) ∙ ap (advance t) ih.cut;
        code = ap (λ q. m.step q a) ih.code ∙ sym (ran_push m (actions es r) a) ∙ ap (ran m) (sym (actions_more es r i));
        wide = length-set x.cut t (get_or x.cut t 0 + 1) ∙ ih.wide;
      }

  -- a path of cuts is a path of pairs
  pub reach_goes : (r : List ℕ) (c : Cut) → Reach es r c
      → (x : Pair) × LeadsTo es n m (thread_list es r) x × (cut_of x.cut ≡ c) × (x.code ≡ ran m (actions es r))
  reach_goes r c h = let b = back h in (b.pair, b.leads, b.cut, b.code)

  is_run_lem : (p : List ℕ) (x : Pair) → Comes es n m p x
      → (r : List ℕ) × Consistent es r × (thread_list es r ≡ p) × (x.code ≡ ran m (actions es r))
  is_run_lem p x h =
      let s = goes_reach p x h.0 in
      (s.0, (paths_are_runs es g.sound s.0).1 (cut_of x.cut) s.1 ((decides_full es x.cut).0 h.1), s.2, s.3)

  has_run_lem : (r : List ℕ) → Consistent es r → (x : Pair) × Comes es n m (thread_list es r) x × (x.code ≡ ran m (actions es r))
  has_run_lem r run =
      let s = (paths_are_runs es g.sound r).0 run in
      let b = back s.1 in
      (b.pair, (b.leads, (decides_full es b.pair.cut).1 (subst (Full es) (sym b.cut) s.2)), b.code)

  pub paths : Paths es n m
  paths = record {
    accepted = λ p x h. let s = is_run_lem p x h in (runs_are_paths es g.sound p).1 (s.0, s.1, s.2);
    accepts = λ p a.
        let s = (runs_are_paths es g.sound p).0 a in
        let h = has_run_lem s.0 s.1 in
        (h.0, subst (λ q. Comes es n m q h.0) s.2 h.1);
    is_run = is_run_lem;
    has_run = has_run_lem;
  }
