-- What a contract sees of an interpreter.
use Rattle.std.specs.Prelude.{ℕ, List, refl}
use Rattle.std.specs.Coded.{Coded, code_by, coded×, coded_list, coded_ℕ}

-- its recorder, what is written and not yet taken away, and the bytes of the line that is not finished
pub record View (R : Type 0) : Type 0 where
  pub recorder : R
  pub output : List ℕ
  pub held : List ℕ

abbrev pub view_code : {R : Type 0} → Coded R → Coded (View R)
view_code {R} code =
    code_by (R × (List ℕ × List ℕ)) (coded× code (coded× (coded_list coded_ℕ) (coded_list coded_ℕ))) (λ v. (v.recorder, (v.output, v.held))) (λ p. record { recorder = p.0; output = p.1.0; held = p.1.1 }) (λ _. refl)
