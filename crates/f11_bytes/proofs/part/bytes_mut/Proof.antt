-- `bytes_mut` lends some bytes of an array. The borrow checker shows no write-back for a part of an array, so this proof
-- walks the code by hand.
use mathlib.Core.Path.{◌≡◌, refl}
use Prim.Native.Nat.{ℕ, ◌+◌, ◌-◌, ◌*◌, ◌^◌, ◌<◌, ◌≤◌}
use native.Mathlib.Omega.{arith}
use mathlib.Core.List.{List, [], ◌∷◌}
use seplogic.Ra.Ura.{Ura}
use mir.Syntax.{Args, Fn, named, w64, a_number}
use mir.MapTy.{inst_fn}
use mir.Val.{vptr, vint}
use base.Logic.{SProp, ent}
use base.Fml.{Lft, GName, Share, ftrue, flft}
use prog.Memory.{Memory}
use prog.Routine.{Routine}
use prog.Wp.{Calls, Loops, WpFn, Tables}
use types.Logic.{Logic}
use contract.BorrowLft.{◌⊑◌}
use contract.Lifetimes.{AllOutlive}
use contract.Monad.{Fun}
use contract.Running.{tables, tables_of}
use sound.WpLaws.{WpFn-mono}
use types.Kit.{‵, ◌⊛◌, raw, given, some, later, ◌$◌, ◌∵◌, !, qed, by, move, keep, drop, split, split3, join, learn, fsplit, fjoin, use2}
use types.Kit.{await, pick, suffices, frame, done}
use types.Part.{agg}
use types.Run.{stop, addr, bin, and_then, no_more, returns, enter}
use types.ByLocal.{alloc_all, pass_all, free_all, look_at, get, through, sets}
use denote.Builtin.{u8, usize}
use denote.Exit.{yes, no}
use denote.Param.{param, number, layouts, ArrayAt}
use denote.Plain.{uint_vals, uint_Tells}
use denote.RattleType.{RattleType, owns}
use denote.Ref.{MutBor, MutRef, mut_vals, mut_Tells}
use denote.Signature.{plain, mut_ref_to}
use denote.Slice.{slice_val}
use denote.Steps.{nothing}
use denote.Triple.Clauses.{Clauses, Ended, closing}
use denote.Triple.Entry.{on_entry}
use denote.Triple.Spec.{Meets, triple_of}
use denote.Triple.Table.{entered}
use denote.Triple.Walked.{says, Stays, stay_dropped, walk_of, ends_at, walked, Goes-dropped, Goes-spent_ref, walk_Meets}
use Rattle.f11_bytes.proofs.PartMemory.{mid, part_lent, lends_part}
use Rattle.f11_bytes.specs.contracts.part.bytes_mut as f
use Rattle.f11_bytes.specs.contracts.part.bytes_mut.Key.{name as #self}
use Rattle.f11_bytes.proofs.part.bytes_mut.Statement as stated
use Rattle.f11_bytes.proofs.part.bytes_mut.Code as code

module _ (n : ℕ) where
  abbrev args : Args
  args = layouts (a_number ∷ []) (number n, tt)

  abbrev function : Fn
  function = inst_fn args code.function

  abbrev S : RattleType
  S = ArrayAt u8 (param 0 (number n))

  abbrev ended : Ended
  ended = f.ended (number n)

  abbrev stayed : Stays ended.signature.params ended.kept
  stayed = (
    stay_dropped (mut_ref_to (0 ∷ []) tt (plain (λ _. S))) no,
    (stay_dropped (plain (λ _. usize)) yes, (stay_dropped (plain (λ _. usize)) yes, tt)),
  )

module _ (n : ℕ) {M : Type 1} {𝓤 : Ura M} (𝓛 : Logic 𝓤) (at_mem : Memory → SProp 𝓤) (run : Routine → Fun 𝓤) where
  open 𝓛 use {H}

  abbrev clauses : Clauses 𝓤 (ended n)
  clauses = f.clauses (number n) 𝓛 at_mem run

  module _ (C : Calls 𝓤 H) (Λ : Loops 𝓤 H) (κ κN : Lft) (q qN : Share) (bd : AllOutlive 2 (ended n).signature.outlives (κ, (κN, tt)))
      (b o : ℕ) (γ : GName) (xs : List ℕ) (from to : ℕ) where
    abbrev self : MutBor (List ℕ)
    self = record { ref_ptr = (b, o); ghost_name = γ; now = xs }

    abbrev bound : (walk_of 𝓛 (ended n) (stayed n) clauses).Ghost
    bound =
        (((κ, (κN, tt)), (q, (qN, tt)), bd, (self, (from, (to, tt))), (mut_vals self, (vint w64 from ∷ [], (vint w64 to ∷ [], tt)))), tt)

    walk : from ≤ to → to ≤ n → n < 2 ^ 63 → from < 2 ^ 64 → to < 2 ^ 64
        → ent 𝓤 (on_entry 𝓛 (ended n).signature (κ, (κN, tt)) (q, (qN, tt)) (self, (from, (to, tt)))
        (mut_vals self, (vint w64 from ∷ [], (vint w64 to ∷ [], tt))))
        (WpFn 𝓤 H C Λ (function n) (vptr b o ∷ vint w64 from ∷ vint w64 to ∷ []) ((walk_of 𝓛 (ended n) (stayed n) clauses).post bound))
    walk ordered within small fits_from fits_to =
        let fits : to - from < 2 ^ 64 = omega arith in
        let p : ℕ = from + o in
        let starts : from * 1 + o ≡ p = omega arith in
        qed 𝓛 ((‵ (flft κ q) ⊛ ‵ (flft κN qN) ⊛ ‵ ftrue) ∷ ‵
        (owns (MutRef (named 0) κ (S n) ∷ usize ∷ usize ∷ []) (self, (from, (to, tt)))
        (mut_vals self, (vint w64 from ∷ [], (vint w64 to ∷ [], tt)))) ∷ []) ∵
        enter ! C Λ (function n) (vptr b o ∷ vint w64 from ∷ vint w64 to ∷ []) _ $
        alloc_all ! (λ l. pass_all ! refl ((tt, tt), ((tt, record { fits = fits_from }), ((tt, record { fits = fits_to }), tt))) $
        sets ! (addr ! (through ! refl (stop !))) refl (tt, tt) $
        sets ! (bin ! (get ! refl) (get ! refl) tt) refl (tt, tt) $
        sets ! (bin ! (get ! refl) (get ! refl) ordered) refl (tt, record { fits = fits }) $
        sets ! (addr ! (through ! refl (stop !))) refl (tt, tt) $
        sets ! (agg ! (and_then ! (get ! refl) (and_then ! (get ! refl) (no_more !)))) refl (tt, (tt, (record { fits = fits }, tt))) $
        split ! $ move ! (2 ∷ []) $ fsplit ! $ move ! (0 ∷ 2 ∷ []) $
        use2 𝓛 (later (some (part_lent 𝓛 u8 tt n (named 0) κ q b o γ xs from to ordered within p starts)))
        (lends_part 𝓛 u8 tt n (named 0) κ q b o γ xs from to ordered within p starts (omega arith) (omega arith) (mut_vals self)) $ await !
        tt $ pick ! (λ δ. learn ! (λ count.
        let lent : MutBor (List ℕ) =
        record { ref_ptr = (b, p); ghost_name = δ; now = mid 𝓛 u8 tt n (named 0) κ q b o γ xs from to ordered within p starts } in
        returns ! (look_at ! 0 refl) $ free_all ! refl $ keep ! (0 ∷ 2 ∷ []) $ split3 ! $
        suffices ! _ (ends_at 𝓛 (ended n) (stayed n) clauses bound (slice_val (b, p) (to - from)) lent (tt, (tt, (tt, tt)))
        (tt, (tt, (tt, tt)))) $
        nothing ! $ nothing ! $ fjoin ! $ nothing ! $ fjoin ! $ nothing ! $ fjoin ! $ join ! $ move ! (1 ∷ 3 ∷ []) $ join ! $ join ! $ frame
        ! $ says ! (refl, count) $ done !)))

  meets : (𝓣 : Tables 𝓤 H) → Meets 𝓛 (ended n).signature (WpFn 𝓤 H 𝓣.C 𝓣.Λ (function n)) (closing 𝓛 (ended n) clauses)
  meets 𝓣 =
      let number_goes = Goes-dropped 𝓛 2 (plain (λ _. usize)) yes (λ κs x w. refl) in
      walk_Meets 𝓛 (ended n) (stayed n) (Goes-spent_ref 𝓛 2 (0 ∷ []) tt (plain (λ _. S n)), (number_goes, (number_goes, tt))) clauses
      (WpFn 𝓤 H 𝓣.C 𝓣.Λ (function n)) (WpFn-mono 𝓤 H 𝓛.laws 𝓣 (function n))
      (walked 𝓛 (ended n) (stayed n) clauses (WpFn 𝓤 H 𝓣.C 𝓣.Λ (function n)) (λ κs. (mut_vals, (uint_vals w64, (uint_vals w64, tt))))
      (λ κs. (mut_Tells (named 0) κs.0 (S n), (uint_Tells w64, (uint_Tells w64, tt))))
      (λ κs qs bounds a g are.
      qed 𝓛 (raw (on_entry 𝓛 (ended n).signature κs qs a (mut_vals a.0, (vint w64 a.1.0 ∷ [], (vint w64 a.1.1.0 ∷ [], tt)))) ∷
      (given (κs.1.0 ⊑ []) (‵ ftrue) ⊛ given (n * 1 < 2 ^ 63) (‵ ftrue) ⊛ given ((a.1.0 ≤ a.1.1.0) × (a.1.1.0 ≤ n)) (‵ ftrue)) ∷ []) ∵
      move ! (1 ∷ []) $ split3 ! $ drop ! $ learn ! (λ small. drop ! $ learn ! (λ within. drop ! $
      by ! (walk 𝓣.C 𝓣.Λ κs.0 κs.1.0 qs.0 qs.1.0 bounds a.0.ref_ptr.0 a.0.ref_ptr.1 a.0.ghost_name a.0.now a.1.0 a.1.1.0 within.0 within.1
      (omega (arith, small)) are.1.0.1 are.1.1.0.1)))))

pub bytes_mut_spec : {M : Type 1} → stated.statement M
unfolding tables_of
bytes_mut_spec 𝓤 𝓛 𝓜 𝓡 wired n fits =
    let 𝓣 : Tables 𝓤 𝓛.H = tables_of 𝓤 𝓛.H 𝓜 (tables 𝓤 𝓛.H 𝓜 𝓡 𝓡.env) in
    entered 𝓤 𝓛.H (triple_of 𝓛 (ended n).signature (f.spec (number n) 𝓛 𝓜.mem 𝓡.returns)) 𝓣.C 𝓣.Λ (#self (args n)) (function n)
    (code.unfolded 𝓤 𝓛.H 𝓜 𝓡 wired (number n, tt))
    (meets n 𝓛 𝓜.mem 𝓡.returns 𝓣)
