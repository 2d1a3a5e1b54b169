-- A text that is converted into the blocks of a file, which are written one by one (profile).
use Rattle.std.specs.Prelude.{◌≡◌, ℕ, suc, ◌+◌, ◌≤◌, true, List, [], ◌∷◌, ◌++◌, All, length}
use Rattle.std.specs.List.{concat}
use Rattle.f11_store.specs.declared.refusals.Refusal.{Refusal}
use Rattle.f11_making.specs.Asking.{Denies, Granted, FilesService, Who, writes, writes_of}
use Rattle.f11_flx.specs.Filling.{Out, pending}
use Rattle.f11_flx.specs.ToRecords.{bytes_to_come, is_too_long, longest_with, open_of}
use Rattle.f11_flx.specs.declared.refusal.FlxRefusal.{FlxRefusal}
use Rattle.f11_flx.specs.declared.refusal.FlxRefusal.TheVariants as refusal
use Rattle.f11_flx.specs.declared.to_records.ToRecords.{ToRecords}

-- the bytes of a block that aren't written yet, and those that are to come where the text goes on with these bytes
abbrev pub out_bytes : Out → ToRecords → List ℕ → List ℕ
out_bytes o s bytes = pending o ++ bytes_to_come s bytes

-- Blocks were given of the bytes to come, where the text goes on with `after` in place of `before`; what is known of its lines is the same.
pub record Onward (s s' : ToRecords) (before after : List ℕ) (o o' : Out) (pieces : List (List ℕ)) : Type 0 where
  pub bytes : out_bytes o s before ≡ concat pieces ++ out_bytes o' s' after
  pub longest : longest_with s' after ≡ longest_with s before
  pub long : is_too_long s' after ≡ is_too_long s before

-- The source was read but for the rest, and blocks of the file accessed by the lun were written.
pub record WritesPieces {V : Type 0} (S : FilesService V) (who : Who) (lun : ℕ) (s s' : ToRecords) (source rest : List ℕ) (o o' : Out)
    (old new : V) :
    Type 0
  where
    pub pieces : List (List ℕ)
    pub granted : Granted S who (writes_of lun o.place pieces) old new
    pub place : o'.place ≡ o.place + length pieces
    pub whole : All (λ b. length b ≡ 512) pieces
    pub onward : (more : List ℕ) → Onward s s' (source ++ more) (rest ++ more) o o' pieces
    pub unended : open_of s' + length rest ≤ open_of s + length source

-- Blocks were written, and one was refused: these are the first of the bytes to come, whatever follows the source.
pub record StopsAtPiece {V : Type 0} (S : FilesService V) (who : Who) (lun : ℕ) (s : ToRecords) (source : List ℕ) (o : Out) (e : Refusal)
    (old new : V) : Type 0 where
  pub pieces : List (List ℕ)
  pub last : List ℕ
  pub between : V
  pub granted : Granted S who (writes_of lun o.place pieces) old between
  pub denied : Denies S who (writes lun (suc (o.place + length pieces)) last) e between new
  pub whole : All (λ b. length b ≡ 512) (pieces ++ last ∷ [])
  pub begins : (more : List ℕ) → (rest : List ℕ) × (out_bytes o s (source ++ more) ≡ concat (pieces ++ last ∷ []) ++ rest)

-- A line is too long, whatever follows; blocks were written before that.
pub record MeetsLongLine {V : Type 0} (S : FilesService V) (who : Who) (lun : ℕ) (s : ToRecords) (source : List ℕ) (o : Out) (old new : V) :
    Type 0
  where
    pub pieces : List (List ℕ)
    pub granted : Granted S who (writes_of lun o.place pieces) old new
    pub long : (more : List ℕ) → is_too_long s (source ++ more) ≡ true

-- why not all was written
abbrev pub FailsToWritePieces : {V : Type 0} → FilesService V → Who → ℕ → ToRecords → List ℕ → Out → FlxRefusal → V → V → Type 0
FailsToWritePieces S who lun s source o (refusal.Files e) old new = StopsAtPiece S who lun s source o e old new
FailsToWritePieces S who lun s source o (refusal.Rt e) old new = ⊥
FailsToWritePieces S who lun s source o refusal.BadRecord old new = ⊥
FailsToWritePieces S who lun s source o refusal.LineTooLong old new = MeetsLongLine S who lun s source o old new
FailsToWritePieces S who lun s source o refusal.Unread old new = ⊥

-- The block, which is full, was written, and another one is begun.
pub record WritesNext {V : Type 0} (S : FilesService V) (who : Who) (lun : ℕ) (o o' : Out) (old new : V) : Type 0 where
  pub granted : Granted S who (writes_of lun o.place (o.block ∷ [])) old new
  pub next : o'.place ≡ o.place + 1
  pub empty : o'.to ≡ 0
