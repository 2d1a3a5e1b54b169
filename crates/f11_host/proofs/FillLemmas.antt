-- A file that is accessed is filled with the bytes of a file of the host, block by block.
use Rattle.std.proofs.Common.{◌≡◌, ℕ, suc, ◌+◌, ◌-◌, ◌<◌, List, [], ◌∷◌, ◌++◌, length, min, Option, refl, sym, ap, ◌∙◌, subst, arith}
use Rattle.std.proofs.Common.{append_assoc, take}
use Rattle.std.proofs.Math.Seq.{take-length}
use Rattle.std.proofs.KnownBytes.{Consumes-nil}
use Rattle.f11_store.specs.declared.refusals.Refusal.{Refusal}
use Rattle.f11_making.specs.Asking.{BreaksOffAsking, Denies, FilesService, Granted, Grants, Who, writes, writes_of}
use Rattle.f11_making.specs.Making.{giving_up}
use Rattle.f11_making.specs.Making.{extension, filling_of}
use Rattle.f11_flx.specs.Making.{AsksToFill, IsBrokenOff}
use Rattle.f11_flx.specs.Spelled.{image_attributes_to}
use Rattle.f11_flx.specs.declared.refusal.FlxRefusal.{FlxRefusal}
use Rattle.f11_flx.specs.declared.refusal.FlxRefusal.TheVariants.{BadRecord, Files, LineTooLong, Rt, Unread}
use Rattle.f11_making.proofs.AskingLemmas.{breaks-before, granted-append, granted-one, writes-append}
use Rattle.f11_flx.proofs.FromRt.MakingLemmas.{breaks-filling, breaks-giving, same-blocks}
use Rattle.f11_host.specs.Filling.{BreaksFilling, FailsToFillFromHost, FailsToWriteBytes, FillsFromHost, HostFile, LacksBlock, StopsAtBlock}
use Rattle.f11_host.specs.Filling.{WritesBytes, host_file}
use Rattle.f11_host.specs.Pieces.{IsInBlocks, ReadsPiece, blocks_for, filled_up}
use Rattle.f11_host.proofs.PieceLemmas.{TakesBlocks, takes-all, takes-few, takes-first, takes-more, takes-none}

-- So many blocks were read and written.
pub record Written {V : Type 0} (S : FilesService V) (who : Who) (lun bytes place left : ℕ) (unread unread' : Option (List ℕ)) (old now : V)
    : Type 0 where
  pub taken : List ℕ
  pub pieces : List (List ℕ)
  pub takes : TakesBlocks bytes place left taken pieces unread unread'
  pub granted : Granted S who (writes_of lun 0 pieces) old now

-- bytes that are the same up to their ends have the same blocks
pub same-text : (text taken : List ℕ) → length text ≡ length taken → take (length taken) text ≡ taken → text ≡ taken
same-text text taken size front = sym (take-length text) ∙ ap (λ n. take n text) size ∙ front

pub same-pieces : (text taken : List ℕ) (blocks pieces : List (List ℕ)) → text ≡ taken → IsInBlocks text blocks → IsInBlocks taken pieces
    → blocks ≡ pieces
same-pieces text taken blocks pieces same h k =
    same-blocks pieces blocks k.whole h.whole
    (h.content_is ∙ ap (λ (l : List ℕ). filled_up l (blocks_for (length l))) same ∙ sym k.content_is)

module _ {V : Type 0} (S : FilesService V) (who : Who) (lun bytes : ℕ) (unread : Option (List ℕ)) (old : V) where
  pub written-none : Written S who lun bytes 0 bytes unread unread old old
  written-none = record { taken = []; pieces = []; takes = takes-none bytes unread; granted = refl }

  module _ (place left : ℕ) (now' : Option (List ℕ)) (now : V) (h : Written S who lun bytes place left unread now' old now) where
    -- one more is
    pub written-more : (count : ℕ) (block : List ℕ) (new' : Option (List ℕ)) (new : V) → place < blocks_for bytes → count ≡ min left 512
        → ReadsPiece count now' new' block → Grants S who (writes lun (place + 1) block) now new
        → Written S who lun bytes (place + 1) (left - count) unread new' old new
    written-more count block new' new inside is r g = record {
      taken = h.taken ++ r.piece;
      pieces = h.pieces ++ block ∷ [];
      takes = takes-more bytes place left h.taken h.pieces unread now' h.takes count block new' inside is r;
      granted = subst (λ l. Granted S who l old new) (sym (writes-append lun 0 h.pieces (block ∷ [])))
          (granted-one S who (writes_of lun 0 h.pieces) (writes lun (suc (0 + length h.pieces)) block) old now new h.granted
          (subst (λ n. Grants S who (writes lun n block) now new) (omega (arith, h.takes.count)) g));
    }

    -- or is refused
    pub written-stops : (count : ℕ) (block : List ℕ) (e : Refusal) (new' : Option (List ℕ)) (new : V) → place < blocks_for bytes
        → count ≡ min left 512 → ReadsPiece count now' new' block → Denies S who (writes lun (place + 1) block) e now new
        → (taken : List ℕ) × StopsAtBlock S who lun bytes e unread new' taken old new
    written-stops count block e new' new inside is r d =
        let next = takes-more bytes place left h.taken h.pieces unread now' h.takes count block new' inside is r in
        let pieces = h.pieces ++ block ∷ [] in
        let taken = h.taken ++ r.piece in (
          taken,
          record {
            few = takes-few bytes (place + 1) (left - count) taken pieces unread new' next;
            takes = next.takes;
            pieces = h.pieces;
            last = block;
            between = now;
            granted = h.granted;
            denied = subst (λ n. Denies S who (writes lun n block) e now new) (omega (arith, h.takes.count)) d;
            begins = λ text size front blocks k.
                let more = takes-first bytes (place + 1) (left - count) taken pieces unread new' next (omega (arith, inside)) text size
                front blocks k in
                (more.0, more.1 ∙ append_assoc h.pieces (block ∷ []) more.0);
          },
        )

    pub written-lacks : place < blocks_for bytes → LacksBlock S who lun bytes old now
    written-lacks inside = record { pieces = h.pieces; few = omega (arith, h.takes.count, inside); granted = h.granted }

    -- all are
    pub written-all : place ≡ blocks_for bytes → (taken : List ℕ) × WritesBytes S who lun bytes unread now' taken old now
    written-all all =
        let k = takes-all bytes place left h.taken h.pieces unread now' h.takes all in (
          h.taken,
          record { size = k.0; takes = h.takes.takes; pieces = h.pieces; in_blocks = k.1; granted = h.granted },
        )

  -- blocks weren't allocated
  pub not-extended : (e : Refusal) (new : V) → BreaksOffAsking S who (extension lun (blocks_for bytes)) e old new
      → BreaksFilling S who lun bytes e (host_file unread []) (host_file unread []) old new
  not-extended e new b = record {
    few = omega arith;
    takes = Consumes-nil unread;
    pieces = [];
    breaks = breaks-before S who (extension lun (blocks_for bytes)) (writes_of lun 0 [] ++ giving_up lun) e old new b;
    whole = λ text size front blocks k.
        breaks-before S who (extension lun (blocks_for bytes)) (writes_of lun 0 blocks ++ giving_up lun) e old new b;
  }

  module _ (between : V) (extended : Granted S who (extension lun (blocks_for bytes)) old between) where
    -- they were, and not all were written
    pub not-written : (f : FlxRefusal) (unread' : Option (List ℕ)) (taken : List ℕ) (new : V)
        → FailsToWriteBytes S who lun bytes f unread unread' taken between new
        → FailsToFillFromHost S who lun bytes f (host_file unread []) (host_file unread' taken) old new
    not-written (Files e) unread' taken new h = record {
      few = h.few;
      takes = h.takes;
      pieces = h.pieces ++ h.last ∷ [];
      breaks = breaks-filling S who lun (blocks_for bytes) h.pieces [] h.last e old between h.between new extended h.granted h.denied;
      whole = λ text size front blocks k.
          let rest = h.begins text size front blocks k in
          subst (λ l. BreaksOffAsking S who (filling_of lun (blocks_for bytes) l) e old new) (sym rest.1)
          (breaks-filling S who lun (blocks_for bytes) h.pieces rest.0 h.last e old between h.between new extended h.granted h.denied);
    }
    not-written (Rt e) unread' taken new h = absurd h
    not-written BadRecord unread' taken new h = absurd h
    not-written LineTooLong unread' taken new h = absurd h
    not-written Unread unread' taken new h = record {
      pieces = h.pieces;
      few = h.few;
      granted = granted-append S who (extension lun (blocks_for bytes)) (writes_of lun 0 h.pieces) old between new extended h.granted;
    }

    -- all were, and the file wasn't given up,
    pub not-given : (e : Refusal) (unread' : Option (List ℕ)) (taken : List ℕ) (written new : V)
        → WritesBytes S who lun bytes unread unread' taken between written → BreaksOffAsking S who (giving_up lun) e written new
        → BreaksFilling S who lun bytes e (host_file unread []) (host_file unread' taken) old new
    not-given e unread' taken written new h b = record {
      few = omega (arith, h.size);
      takes = h.takes;
      pieces = h.pieces;
      breaks = breaks-giving S who lun (blocks_for bytes) h.pieces e old between written new extended h.granted b;
      whole = λ text size front blocks k.
          let same = same-pieces text taken blocks h.pieces (same-text text taken (size ∙ sym h.size) front) k h.in_blocks in
          subst (λ l. BreaksOffAsking S who (filling_of lun (blocks_for bytes) l) e old new) (sym same)
          (breaks-giving S who lun (blocks_for bytes) h.pieces e old between written new extended h.granted b);
    }

    -- or was
    pub filled : (unread' : Option (List ℕ)) (taken : List ℕ) (written new : V)
        → WritesBytes S who lun bytes unread unread' taken between written → Granted S who (giving_up lun) written new
        → FillsFromHost S who lun bytes (host_file unread []) (host_file unread' taken) old new
    filled unread' taken written new h g = record {
      size = h.size;
      takes = h.takes;
      pieces = h.pieces;
      in_blocks = h.in_blocks;
      granted = granted-append S who (extension lun (blocks_for bytes)) (writes_of lun 0 h.pieces ++ giving_up lun) old between new extended
          (granted-append S who (writes_of lun 0 h.pieces) (giving_up lun) between written new h.granted g);
    }

-- what is asked is that of any source
pub asks-to-fill : {V : Type 0} (S : FilesService V) (who : Who) (lun bytes : ℕ)
    → AsksToFill S who lun (blocks_for bytes) (FillsFromHost S who lun bytes) (FailsToFillFromHost S who lun bytes)
asks-to-fill {V} S who lun bytes = record { fills = λ a b v w h. (h.pieces, h.granted); fails = broken }
  where
    broken : (f : FlxRefusal) (a b : HostFile) (v w : V) → FailsToFillFromHost S who lun bytes f a b v w
        → IsBrokenOff S who lun (blocks_for bytes) f v w
    broken (Files e) a b v w h = (h.pieces, h.breaks)
    broken (Rt e) a b v w h = absurd h
    broken BadRecord a b v w h = absurd h
    broken LineTooLong a b v w h = absurd h
    broken Unread a b v w h = (h.pieces, h.granted)

-- attributes of the file, by how many blocks were counted
pub attributes-are : (attr : List ℕ) (n bytes end : ℕ) → attr ≡ image_attributes_to n end → n ≡ blocks_for bytes
    → attr ≡ image_attributes_to (blocks_for bytes) end
attributes-are attr n bytes end is count = is ∙ ap (λ k. image_attributes_to k end) count
