-- A row of candidates has only page numbers.
use Rattle.std.proofs.Common.{◌≡◌, ℕ, zero, suc, get_or, replicate, Some, None, Option, sym, refl, ◌∙◌, arith}
use Rattle.ranking.specs.declared.candidate.Candidate.{Candidate}
use Rattle.pages.specs.Choices.{LowRow}

no_some : {A : Type 0} {B : Type 0} (x : A) → ◌≡◌ {A = Option A} None (Some x) → B
no_some x e = let z : ◌≡◌ {A = ℕ} 0 1 = cc in absurd (omega arith)

all_none : (n k : ℕ) → get_or {A = Option Candidate} (replicate n None) k None ≡ None
all_none zero k = refl
all_none (suc n) zero = refl
all_none (suc n) (suc k) = all_none n k

pub low_none : LowRow (replicate 64 None)
low_none k c e = no_some c (sym (all_none 64 k) ∙ e)
