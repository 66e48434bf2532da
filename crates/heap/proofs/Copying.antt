-- Words that are written one by one.
use Rattle.std.proofs.Common.{◌≡◌, ℕ, ◌+◌, ◌<◌, ◌≤◌, ◌⊎◌, List, [], length, get_or, set, sym, ap, ◌∙◌, inl, inr, arith, length-set, get_or-set_other, get_or-set_same, set-set}
use Rattle.std.proofs.lemmas.Bool.{cases_eq}
use Rattle.heap.specs.Blocks.{Copied}

-- ---- a copy

-- `vss` is `uss` but for words 1 to `k` of the copy
abbrev pub Copying : List (List ℕ) → List (List ℕ) → ℕ → ℕ → ℕ → ℕ → ℕ → Type 0
Copying uss vss g from t to k =
    (vss ≡ set uss t (get_or vss t []))
    × (length (get_or vss t []) ≡ length (get_or uss t []))
    × ((j : ℕ) → 1 ≤ j → j < k → get_or (get_or vss t []) (to + j) 0 ≡ get_or (get_or uss g []) (from + j) 0)
    × ((i : ℕ) → (i < to + 1) ⊎ (to + k ≤ i) → get_or (get_or vss t []) i 0 ≡ get_or (get_or uss t []) i 0)

pub copying_more : (uss vss : List (List ℕ)) (g from t to k : ℕ) → (g ≡ t → ⊥) → 1 ≤ k → t < length uss → to + k < length (get_or uss t [])
    → Copying uss vss g from t to k → Copying uss (set vss t (set (get_or vss t []) (to + k) (get_or (get_or vss g []) (from + k) 0))) g from t to (k + 1)
copying_more uss vss g from t to k ne one lt lk c =
    let X : List ℕ = get_or vss t [] in
    let v : ℕ = get_or (get_or vss g []) (from + k) 0 in
    let Y : List ℕ = set X (to + k) v in
    let n : length vss ≡ length uss = ap length c.0 ∙ length-set uss t X in
    let w = c.1 in
    let here : get_or (set vss t Y) t [] ≡ Y = get_or-set_same vss t Y [] (omega arith) in
    let source : get_or vss g [] ≡ get_or uss g [] = ap (λ (x : List (List ℕ)). get_or x g []) c.0 ∙ get_or-set_other uss t g X [] ne in (
      ap (λ (x : List (List ℕ)). set x t Y) c.0 ∙ set-set uss t X Y ∙ ap (set uss t) (sym here),
      ap length here ∙ length-set X (to + k) v ∙ c.1,
      (λ j a b. ap (λ (x : List ℕ). get_or x (to + j) 0) here
          ∙ elim (cases_eq j k) [
            | inl q ↦
                ap (λ (x : ℕ). get_or Y (to + x) 0) q ∙ get_or-set_same X (to + k) v 0 (omega arith)
                ∙ ap (λ (x : List ℕ). get_or x (from + k) 0) source ∙ sym (ap (λ (x : ℕ). get_or (get_or uss g []) (from + x) 0) q)
            | inr differ ↦ get_or-set_other X (to + k) (to + j) v 0 (λ e. differ (omega arith)) ∙ c.2 j a (omega (arith, differ))
          ]),
      λ i h. ap (λ (x : List ℕ). get_or x i 0) here ∙ by i h,
    )
  where
    by : (i : ℕ) → (i < to + 1) ⊎ (to + (k + 1) ≤ i) → get_or (set (get_or vss t []) (to + k) (get_or (get_or vss g []) (from + k) 0)) i 0 ≡ get_or (get_or uss t []) i 0
    by i (inl h) = get_or-set_other (get_or vss t []) (to + k) i (get_or (get_or vss g []) (from + k) 0) 0 (λ e. omega arith) ∙ c.3 i (inl h)
    by i (inr h) = get_or-set_other (get_or vss t []) (to + k) i (get_or (get_or vss g []) (from + k) 0) 0 (λ e. omega arith) ∙ c.3 i (inr (omega arith))

pub copying_all : (wss vss : List (List ℕ)) (g from t to len n k : ℕ) → (g ≡ t → ⊥) → g < length wss → t < length wss → 1 ≤ len → to < length (get_or wss t []) → len ≤ k → k ≤ len
    → Copying (set (set wss g (set (get_or wss g []) from n)) t (set (get_or (set wss g (set (get_or wss g []) from n)) t []) to n)) vss g from t to k
    → Copied wss vss g from t to len n
copying_all wss vss g from t to len n k ne lg lt one lto most least c =
    let U : List (List ℕ) = set wss g (set (get_or wss g []) from n) in
    let nu : length U ≡ length wss = length-set wss g (set (get_or wss g []) from n) in
    let old : get_or U t [] ≡ get_or wss t [] = get_or-set_other wss g t (set (get_or wss g []) from n) [] (λ e. ne (sym e)) in
    let Z : List ℕ = set (get_or U t []) to n in
    let here : get_or (set U t Z) t [] ≡ Z = get_or-set_same U t Z [] (omega arith) in
    let source : get_or (set U t Z) g [] ≡ set (get_or wss g []) from n =
    get_or-set_other U t g Z [] ne ∙ get_or-set_same wss g (set (get_or wss g []) from n) [] lg in
    let lo : length (get_or U t []) ≡ length (get_or wss t []) = ap length old in
    record {
      vt = get_or vss t [];
      pages = c.0 ∙ set-set U t Z (get_or vss t []);
      long = c.1 ∙ ap length here ∙ length-set (get_or U t []) to n ∙ lo;
      first = c.3 to (inl (omega arith)) ∙ ap (λ (x : List ℕ). get_or x to 0) here ∙ get_or-set_same (get_or U t []) to n 0 (omega arith);
      rest = λ j a b.
          c.2 j a (omega arith) ∙ ap (λ (x : List ℕ). get_or x (from + j) 0) source ∙ get_or-set_other (get_or wss g []) from (from + j) n 0 (λ e. omega arith);
      other = λ i h.
          c.3 i (wider i h) ∙ ap (λ (x : List ℕ). get_or x i 0) here
          ∙ get_or-set_other (get_or U t []) to i n 0 (apart i h) ∙ ap (λ (x : List ℕ). get_or x i 0) old;
    }
  where
    wider : (i : ℕ) → (i < to) ⊎ (to + len ≤ i) → (i < to + 1) ⊎ (to + k ≤ i)
    wider i (inl h) = inl (omega arith)
    wider i (inr h) = inr (omega arith)

    apart : (i : ℕ) → (i < to) ⊎ (to + len ≤ i) → i ≡ to → ⊥
    apart i (inl h) e = omega arith
    apart i (inr h) e = omega arith
