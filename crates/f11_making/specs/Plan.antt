-- A plan: what is asked, each thing by what was answered before, over any questions (profile).
use Rattle.std.specs.Prelude.{◌≡◌}

-- it gives something, or asks something and goes on by the answer
pub data Plan (Q : Type 0) (A : Q → Type 0) (T : Type 0) : Type 0 where
  gives : T → Plan Q A T
  asking : (q : Q) → (A q → Plan Q A T) → Plan Q A T

-- how a question may be answered, and what there is then
abbrev pub Answering : (Q : Type 0) → (Q → Type 0) → Type 0 → Type 1
Answering Q A V = (q : Q) → A q → V → V → Type 0

-- it was carried out, and gave this
abbrev pub Goes : {Q : Type 0} {A : Q → Type 0} {V T : Type 0} → Answering Q A V → Plan Q A T → T → V → V → Type 0
Goes R (gives x) result old new = (result ≡ x) × (new ≡ old)
Goes {Q} {A} {V} R (asking q on) result old new =
    (answer : A q) × (between : V) × (R q answer old between) × (Goes R (on answer) result between new)

-- one after another
abbrev pub and_then : {Q : Type 0} {A : Q → Type 0} {T U : Type 0} → Plan Q A T → (T → Plan Q A U) → Plan Q A U
and_then (gives x) on = on x
and_then (asking q more) on = asking q (λ a. and_then (more a) on)
