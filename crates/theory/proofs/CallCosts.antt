-- Every granted call keeps a state sound; none but begin and make raises what was done and is left.
use Rattle.std.proofs.Common.{◌≡◌, ℕ, ◌+◌, ◌*◌, ◌≤◌, Bool, true, false, not, ltb, List, [], ◌∷◌, length, get_or, set, Some, None, Option, refl, ap, subst, arith}
use Rattle.std.proofs.lemmas.List.{length-set}
use Rattle.std.proofs.lemmas.Bool.{ltb-false, true≢false}
use Rattle.calls.specs.declared.Call.{Call}
use Rattle.calls.specs.declared.Call.TheVariants.{Make, Load, Store, Read, Write, Copy, Clear, Same, Shape, Schedule, Next, Begin, Step, Count}
use Rattle.calls.specs.declared.Refusal.{Refusal}
use Rattle.calls.specs.declared.Refusal.TheVariants.{NoSuchPlace, TooLarge, NoRoom, CollectionRuns}
use Rattle.holders.specs.declared.key.Key.{Key}
use Rattle.holders.specs.Keys.{spare_of}
use Rattle.model.specs.Classes.{fitting}
use Rattle.model.specs.Pages.{Page, block_at, current, refs_of, count_of_current_blocks}
use Rattle.model.specs.State.{Phase, idle, roots, marking, sweeping, moving, running, Heap, State}
use Rattle.model.specs.Units.{with_refs}
use Rattle.model.specs.Making.{barrier, overwrite, page_to_take, with_new}
use Rattle.model.specs.Refusals.{place, block_in, first_keyed, no_place, no_room, first_refusal, refusal}
use Rattle.model.specs.Calls.{if_some, made_in, with_word, stored, scheduled, taken, begun, outcome}
use Rattle.model.specs.Runs.{is_begin}
use Rattle.theory.proofs.PageShapes.{class_fits, page_for_takes}
use Rattle.theory.proofs.Counts.{bit_one, current_block, current_counted, current_or_marked, current_unmarked, marked, marked_husk, total, total_limit, total_mono, total_sum, unmarked}
use Rattle.theory.proofs.Potential.{Bound, Resting, Sound, Stage, budget, by_blocks, by_room, left_of, places}
use Rattle.theory.proofs.UnitCosts.{steps_done}
use Rattle.theory.proofs.HeapCosts.{Charged, charged_alter, charged_barrier, charged_new, charged_trans, raise}

-- a call took state `s` to state `t`, with `e` new blocks
pub record Paid (e : ℕ) (s t : State) : Type 0 where
  pub sound : Sound t.heap
  pub places : places t ≡ places s
  pub budget : (b : Bound) → budget b t ≤ budget b s + raise e b

charged_paid : (e : ℕ) (s t : State) → length t.holder ≡ length s.holder → length t.agenda ≡ length s.agenda
    → Charged e s.heap t.heap → Paid e s t
charged_paid e s t h a c =
    let same : places t ≡ places s = omega arith in
    record {
      sound = c.sound;
      places = same;
      budget = λ b. let q : left_of b (places t) t.heap ≡ left_of b (places s) t.heap = ap (λ n. left_of b n t.heap) same in omega (arith, c.left b (places s), c.units);
    }

unchanged : (e : ℕ) (s : State) → Sound s.heap → Paid e s s
unchanged e s d = record { sound = d; places = refl; budget = λ b. omega arith }

overwritten : (s : State) (p m : ℕ) → Sound s.heap → Paid 0 s (overwrite s p m)
overwritten s p m d = charged_paid 0 s (overwrite s p m) (length-set s.holder p m) refl (charged_barrier s.heap (get_or s.holder p 0) d)

-- the first condition fails
none_first : (b : Bool) (x : Refusal) (cs : List (Bool × Refusal)) → first_refusal ((b, x) ∷ cs) ≡ None → (b ≡ false) × (first_refusal cs ≡ None)
none_first true x cs e = cc
none_first false x cs e = (refl, e)

-- a record that is made is not too large
made_small : (s : State) (p r d : ℕ) → refusal (Make p r d) s ≡ None → 2 + r + d ≤ 32
made_small s p r d e =
    let a = none_first (no_place s p) NoSuchPlace ((ltb 30 (r + d), TooLarge) ∷ (no_room s r d, NoRoom) ∷ []) e in
    let b = none_first (ltb 30 (r + d)) TooLarge ((no_room s r d, NoRoom) ∷ []) a.1 in
    omega (arith, ltb-false 30 (r + d) b.0)

made : (s : State) (p r d : ℕ) (o : Option ℕ) → page_to_take s.heap.pages (fitting (2 + r + d)) ≡ o → 2 + r + d ≤ 32 → Sound s.heap
    → Paid 1 s (if_some o (made_in s p r d) s)
made s p r d None e l w = unchanged 1 s w
made s p r d (Some g) e l w =
    let size : ℕ = fitting (2 + r + d) in
    let fits = class_fits (2 + r + d) l in
    let h : Heap = with_new s.heap g size r d in
    let new : Charged 1 s.heap h = charged_new s.heap g size r d w (page_for_takes s.heap.pages size g e) fits.0 fits.1 fits.2 in
    charged_paid 1 s (made_in s p r d g) (length-set s.holder p _) refl
    (charged_trans 1 0 s.heap h (made_in s p r d g).heap new (charged_barrier h (get_or s.holder p 0) new.sound))

stored_paid : (s : State) (m f v : ℕ) → Sound s.heap → Paid 0 s (stored s m f v)
stored_paid s m f v d =
    let x : ℕ = get_or (refs_of (block_at s.heap.pages m)) f 0 in
    let h : Heap = barrier s.heap x in
    let a : Charged 0 s.heap h = charged_barrier s.heap x d in
    charged_paid 0 s (stored s m f v) refl refl
    (charged_trans 0 0 s.heap h (stored s m f v).heap a (charged_alter h m (λ b. with_refs b (set b.refs f v)) (λ b. refl) (λ b. refl) a.sound))

taken_paid : (s : State) (p : ℕ) (o : Option (Key × ℕ)) → Sound s.heap → Paid 0 s (if_some o (taken s p) s)
taken_paid s p None d = unchanged 0 s d
taken_paid s p (Some x) d =
    let h : Heap = barrier s.heap (get_or s.holder p 0) in
    let a : Charged 0 s.heap h = charged_barrier s.heap (get_or s.holder p 0) d in
    charged_paid 0 s (taken s p x) (length-set s.holder p _) (length-set s.agenda x.1 0)
    (charged_trans 0 0 s.heap h (taken s p x).heap a (charged_barrier h (get_or s.agenda x.1 0) a.sound))

-- the records that a call makes
abbrev pub makes : Call → ℕ
makes (Make p r d) = 1
makes (Load p q f) = 0
makes (Store q f p) = 0
makes (Read q w) = 0
makes (Write q w v) = 0
makes (Copy p q) = 0
makes (Clear p) = 0
makes (Same p q) = 0
makes (Shape q) = 0
makes (Schedule t p) = 0
makes (Next p) = 0
makes Begin = 0
makes (Step u) = 0
makes Count = 0

pub outcome_paid : (c : Call) (s : State) → is_begin c ≡ false → refusal c s ≡ None → Sound s.heap → Paid (makes c) s (outcome c s)
outcome_paid (Make p r d) s i e w = made s p r d (page_to_take s.heap.pages (fitting (2 + r + d))) refl (made_small s p r d e) w
outcome_paid (Load p q f) s i e w = overwritten s p (current s.heap.pages (get_or (refs_of (block_in s q)) f 0)) w
outcome_paid (Store q f p) s i e w = stored_paid s (place s q) f (place s p) w
outcome_paid (Read q j) s i e w = unchanged 0 s w
outcome_paid (Write q j v) s i e w =
    charged_paid 0 s (outcome (Write q j v) s) refl refl (charged_alter s.heap (place s q) (λ b. with_word b j v) (λ b. refl) (λ b. refl) w)
outcome_paid (Copy p q) s i e w = overwritten s p (place s q) w
outcome_paid (Clear p) s i e w = overwritten s p 0 w
outcome_paid (Same p q) s i e w = unchanged 0 s w
outcome_paid (Shape q) s i e w = unchanged 0 s w
outcome_paid (Schedule t p) s i e w =
    charged_paid 0 s (scheduled s t (place s p) (spare_of s.keys)) refl (length-set s.agenda (spare_of s.keys) (place s p))
    (charged_barrier s.heap (get_or s.agenda (spare_of s.keys) 0) w)
outcome_paid (Next p) s i e w = taken_paid s p (first_keyed s.keys) w
outcome_paid Begin s i e w = absurd (true≢false i)
outcome_paid (Step u) s i e w =
    let x = steps_done u s w in
    record { sound = x.sound; places = x.places; budget = λ b. omega (arith, x.budget b) }
outcome_paid Count s i e w = unchanged 0 s w

idle_phase : (ph : Phase) → running ph ≡ false → ph ≡ idle
idle_phase idle e = refl
idle_phase (roots i) e = absurd (true≢false e)
idle_phase marking e = absurd (true≢false e)
idle_phase (sweeping g) e = absurd (true≢false e)
idle_phase (moving k source targets) e = absurd (true≢false e)

-- what a collection may take beside its places when it begins with `held` current blocks: 8405 = 4096 to be greyed + 4096 to be moved + 213
abbrev pub allowed : Bound → ℕ → ℕ
allowed by_room held = 8405
allowed by_blocks held = 2 * held + 213

pub record Begun (s : State) : Type 0 where
  pub sound : Sound (begun s.heap)
  pub budget : (b : Bound) → budget b (outcome Begin s) ≤ places s + allowed b (count_of_current_blocks s.heap.pages)

pub begin_paid : (s : State) → 1 ≤ places s → refusal Begin s ≡ None → Sound s.heap → Begun s
begin_paid s one e w = record {
  sound = record {
    pages = w.pages;
    stage = record {
      room = omega (arith, unmarked_limit);
      husks = omega (arith, total_mono marked_husk marked ps (λ g l. husk_marked), rest.clean);
      straight = rest.straight;
    };
  };
  budget = bound;
}
  where
    ps : List Page
    ps = s.heap.pages

    rest : Resting ps s.heap.work
    rest = subst (Stage ps s.heap.work) (idle_phase s.heap.phase (none_first (running s.heap.phase) CollectionRuns [] e).0) w.stage

    unmarked_limit : total unmarked ps ≤ 4096
    unmarked_limit = total_limit unmarked (λ g m c. bit_one (not m)) ps w.pages

    husk_marked : (m c : Bool) → marked_husk 0 m c ≤ marked 0 m c
    husk_marked true true = omega arith
    husk_marked true false = omega arith
    husk_marked false c = omega arith

    unmarked_current : (m c : Bool) → current_unmarked 0 m c ≤ current_block 0 m c
    unmarked_current true true = omega arith
    unmarked_current false true = omega arith
    unmarked_current m false = omega arith

    current_plus_husk : (m c : Bool) → current_or_marked 0 m c ≡ current_block 0 m c + marked_husk 0 m c
    current_plus_husk true true = refl
    current_plus_husk true false = refl
    current_plus_husk false true = refl
    current_plus_husk false false = refl

    bound : (b : Bound) → budget b (outcome Begin s) ≤ places s + allowed b (count_of_current_blocks ps)
    bound by_room = omega (arith, unmarked_limit)
    bound by_blocks =
        omega (
          arith,
          current_counted ps,
          total_mono current_unmarked current_block ps (λ g l. unmarked_current),
          total_sum current_or_marked current_block marked_husk (λ g. current_plus_husk) ps,
          total_mono marked_husk marked ps (λ g l. husk_marked),
          rest.clean,
        )
