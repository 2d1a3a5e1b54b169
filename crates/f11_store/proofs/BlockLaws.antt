-- Laws of blocks that are written and read.
use Rattle.std.proofs.Common.{◌≡◌, ◌≢◌, ℕ, ◌-◌, ◌<◌, ◌≤◌, ◌==◌, false, List, [], ◌∷◌, None, refl, sym, ◌∙◌, ap, subst, arith, is_none}
use Rattle.std.proofs.lemmas.Bool.{ltb-false, le-ltb}
use Rattle.std.proofs.lemmas.Bool.Decides.{nat_tests}
use Rattle.std.proofs.lemmas.List.{get_or-set_same, get_or-set_other, length-set}
use Rattle.f11_store.specs.declared.callers.Uic.{Uic}
use Rattle.f11_store.specs.declared.requests.Reply.{Reply}
use Rattle.f11_store.specs.declared.requests.Reply.TheVariants as reply
use Rattle.f11_store.specs.declared.requests.Request.TheVariants as request
use Rattle.f11_store.specs.File.{length_of}
use Rattle.f11_store.specs.Store.{Store, file_named, id_held, file_held}
use Rattle.f11_store.specs.Causes.{Cause, first_of}
use Rattle.f11_store.specs.Changes.{with_change, with_block}
use Rattle.f11_store.specs.Step.{Serves, block_at}
use Rattle.f11_store.specs.Laws.{WrittenIsRead, OtherBlocksStay, OtherFilesStay}
use Rattle.f11_store.proofs.StoreLemmas.{none_first, none_rest, access_of_writer, file_named-with_change, other_file}

-- what a served WriteBlock tells: the VBN isn't 0, the lun writes, the VBN is within the file
pub record CanWrite (s : Store) (task lun vbn : ℕ) : Type 0 where
  pub no_zero : (vbn == 0) ≡ false
  pub holds : is_none (s.access task lun) ≡ false
  pub within : vbn ≤ length_of (file_held s task lun)
  pub above : 0 < vbn

can_write : (s : Store) (task : ℕ) (caller : Uic) (lun vbn : ℕ) (block : List ℕ) (a : Reply) (s' : Store) (block' : List ℕ) →
    Serves s task caller (request.WriteBlock lun vbn) block a s' block' → CanWrite s task lun vbn
can_write s task caller lun vbn block a s' block' h =
    let rest = none_rest _ _ _ h.no_cause in
    let no_zero = none_first _ _ _ h.no_cause in
    let past = none_first _ _ _ (none_rest _ _ _ rest) in
    record {
      no_zero = no_zero;
      holds = access_of_writer _ (none_first _ _ _ rest);
      within = ltb-false _ _ past;
      above = above_zero vbn no_zero;
    }
  where
    above_zero : (n : ℕ) → (n == 0) ≡ false → 0 < n
    above_zero n h = grind (arith, nat_tests)

-- the file held after a block was written
held_after : (s : Store) (task lun vbn : ℕ) (block : List ℕ) → CanWrite s task lun vbn →
    file_named (with_change s (id_held s task lun).number (with_block vbn block)) (id_held s task lun) ≡ with_block vbn block
    (file_held s task lun)
held_after s task lun vbn block can =
    file_named-with_change s (id_held s task lun) (with_block vbn block) (λ f. refl) (omega (arith, can.within, can.above))

-- three causes of which none holds
no_cause_of_three : (a b c : Cause) → a.holds ≡ false → b.holds ≡ false → c.holds ≡ false → first_of (a ∷ b ∷ c ∷ []) ≡ None
no_cause_of_three a b c h k l = rw (h, k, l)

pub written_is_read : WrittenIsRead
written_is_read s task caller lun vbn block a s' block' before h =
    subst (λ (x : Store). Serves x task caller (request.ReadBlock lun vbn) before reply.Done x block) (sym h.changes) (record {
      no_cause = no_cause_of_three _ _ _ can.no_zero can.holds (le-ltb _ _ long);
      reply_is = refl;
      changes = refl;
      block_is = sym (ap (λ f. block_at f vbn) after ∙ get_or-set_same (file_held s task lun).blocks (vbn - 1) block []
          (omega (arith, can.within, can.above)));
    })
  where
    can : CanWrite s task lun vbn
    can = can_write s task caller lun vbn block a s' block' h

    after : file_named (with_change s (id_held s task lun).number (with_block vbn block)) (id_held s task lun) ≡ with_block vbn block
        (file_held s task lun)
    after = held_after s task lun vbn block can

    long : vbn ≤ length_of (file_named (with_change s (id_held s task lun).number (with_block vbn block)) (id_held s task lun))
    long = rw (after, length-set) can.within

pub other_blocks_stay : OtherBlocksStay
other_blocks_stay s task caller lun vbn block a s' block' other h above differs =
    subst (λ (x : Store). block_at (file_held x task lun) other ≡ block_at (file_held s task lun) other) (sym h.changes)
    (ap (λ f. block_at f other) (held_after s task lun vbn block can)
    ∙ get_or-set_other (file_held s task lun).blocks (vbn - 1) (other - 1) block [] apart)
  where
    can : CanWrite s task lun vbn
    can = can_write s task caller lun vbn block a s' block' h

    apart : other - 1 ≢ vbn - 1
    apart e = differs (omega (arith, can.above))

pub other_files_stay : OtherFilesStay
other_files_stay s task caller lun vbn block a s' block' n h differs =
    subst (λ (x : Store). x.file n ≡ s.file n) (sym h.changes) (other_file s n (id_held s task lun).number (with_block vbn block) differs)
