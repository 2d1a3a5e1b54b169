-- The text of a file's records, written block by block.
use Rattle.std.proofs.Common.{◌≡◌, ℕ, ◌+◌, ◌-◌, ◌*◌, ◌<◌, ◌≤◌, min, Bool, false, true, IsTrue, List, [], ◌∷◌, ◌++◌, length, take, drop, map}
use Rattle.std.proofs.Common.{Option, Some, None, refl, sym, ap, subst, ◌∙◌, inl, inr, arith, append_assoc, length-append, length-drop}
use Rattle.std.specs.Prelude.{is_some, slice_range, option_and_then, option_map, unwrap_or}
use Rattle.std.specs.List.{concat}
use Rattle.std.proofs.KnownBytes.{Appends-nil}
use Rattle.std.proofs.Math.Seq.{drop-length, take-nil}
use Rattle.std.proofs.lemmas.Bool.{cases_lt}
use Rattle.std.proofs.lemmas.List.{append-nil, drop-drop, get_or_past, length-map, length-take, length-take-le, take-append-drop}
use Rattle.std.proofs.lemmas.List.{take-append-le, take-map, take-take}
use Rattle.std.proofs.lemmas.List.Folds.{concat-append}
use Rattle.std.proofs.lemmas.Option.{slice_get-get_or}
use Rattle.f11_bytes.specs.Block.{zero_block}
use Rattle.f11_dev.proofs.LookedLemmas.{looked_more, looked_within}
use Rattle.f11_dev.specs.Disk.{Disk}
use Rattle.f11_dev.specs.Image.{Image, IsImage}
use Rattle.f11_dev.specs.Looked.{Looked}
use Rattle.f11_flx.proofs.Texts.ConvertLemmas.{option_map-append}
use Rattle.f11_flx.proofs.Texts.EndLemmas.{text_ends}
use Rattle.f11_flx.proofs.SmallLemmas.{some-one}
use Rattle.f11_flx.proofs.Texts.TextLemmas.{good-is}
use Rattle.f11_flx.specs.Lines.{text_with}
use Rattle.f11_flx.specs.Place.{text_at_bad, text_from}
use Rattle.f11_flx.specs.Records.{Which, all, good, good_in, layout_of, records_in, records_of}
use Rattle.f11_flx.specs.ToText.{Converts, MeetsBad, StopsAt, converted_by, ending_of, ends_record, rest_of, text_by}
use Rattle.f11_flx.specs.declared.layout.Layout.{Layout}
use Rattle.f11_flx.specs.declared.line_end.LineEnd.TheVariants.{Lf}
use Rattle.f11_flx.specs.declared.to_text.ToText.{ToText}
use Rattle.f11_header.specs.Fields.{attributes}
use Rattle.f11_index.specs.IndexFile.{Index}
use Rattle.f11_index.specs.Table.{table_in}
use Rattle.f11_reader.specs.Reading.{CountsBlocks, FailsToReadOn, HasEnded, IsReading, ReadsOn, blocks_to_come, contents_to_come}
use Rattle.f11_reader.specs.Reading.{header_in_hand, headers_left}
use Rattle.f11_reader.specs.declared.file.FileReader.{FileReader}
use Rattle.f11_store.proofs.DirectoryLaws.{length-zero_block}
use Rattle.f11_store.specs.File.{File, end_of, length_of, stated_end}
use Rattle.f11_volume.specs.Contents.{block_or_zeros}
use Rattle.f11_commands.specs.TakingOut.{ReadsBefore}
use Rattle.f11_commands.specs.TakingText.{BeginsText, BreaksOffText, FailsToPour, FailsToWriteText, GivesGoodText, GivesText}
use Rattle.f11_commands.specs.TakingText.{IsGoodTextOf, IsTextBeforeBad, IsWholeText, PoursText, ReadsRecords, SkimsFile, WritesGoodText}
use Rattle.f11_commands.specs.TakingText.{CountsBefore, WritesText, all_to_come, blocks_until, file_until, good_lines, lines_of_records}
use Rattle.f11_commands.specs.declared.outcome.Failure.{Failure}
use Rattle.f11_commands.specs.declared.outcome.Failure.TheVariants.{DeviceFault, NoMemory, CannotWrite}
use Rattle.f11_commands.proofs.TakingOutLemmas.{Taken, contents-stay, taken-more}

-- So many bytes of a source were converted, and this text was given.
pub record Giving (t t' : ToText) (source : List ℕ) (used : ℕ) (text : List ℕ) : Type 0 where
  pub text_is : (which : Which) (more : List ℕ) → rest_of t ≤ length (source ++ more) →
      text_by which t (source ++ more) ≡ option_map (λ m. text ++ m) (text_by which t' (drop used source ++ more))
  pub read : rest_of t' + used ≡ rest_of t
  pub within : used ≤ length source
  pub few : length text + ending_of t' ≤ ending_of t + 3 * used

-- nothing before a text
option_map-nothing : (o : Option (List ℕ)) → option_map (λ (text : List ℕ). [] ++ text) o ≡ o
option_map-nothing None = refl
option_map-nothing (Some text) = refl

pub giving-none : (t : ToText) (source : List ℕ) → Giving t t source 0 []
giving-none t source = record {
  text_is = λ which more long. sym (option_map-nothing (text_by which t (source ++ more)));
  read = omega arith;
  within = omega arith;
  few = omega arith;
}

module _ (t t' new : ToText) (source : List ℕ) (used : ℕ) (text : List ℕ) (held : Giving t t' source used text)
    (read : ℕ) (target : List ℕ) (to : ℕ) (conv : Converts t' new (drop used source) read target 0 to) where
  left-enough : (more : List ℕ) → rest_of t ≤ length (source ++ more) → rest_of t' ≤ length (drop used source ++ more)
  left-enough more long =
      omega (
        arith,
        held.read,
        held.within,
        long,
        length-append {A = ℕ} source more,
        length-append {A = ℕ} (drop used source) more,
        length-drop {A = ℕ} used source,
      )

  -- more of them were
  module _ (piece : List ℕ) (cut : piece ≡ take to target) (size : length piece ≡ to) where
    from-start : to - 0 ≡ to
    from-start = omega arith

    pub giving-more : Giving t new source (used + read) (text ++ piece)
    giving-more = record {
      text_is = λ which more long.
          held.text_is which more long
          ∙ ap (option_map (λ (m : List ℕ). text ++ m)) (conv.text which more (left-enough more long))
          ∙ option_map-append text (slice_range target 0 to) (text_by which new (drop read (drop used source) ++ more))
          ∙ ap (λ (p : List ℕ). option_map (λ (m : List ℕ). (text ++ p) ++ m) (text_by which new (drop read (drop used source) ++ more)))
          (ap (λ (n : ℕ). take n target) from-start ∙ sym cut)
          ∙ ap (λ (b : List ℕ). option_map (λ (m : List ℕ). (text ++ piece) ++ m) (text_by which new (b ++ more)))
          (drop-drop read used source);
      read = omega (arith, held.read, conv.read);
      within = omega (arith, held.within, conv.within, length-drop {A = ℕ} used source);
      few = omega (arith, held.few, conv.few, size, length-append {A = ℕ} text piece);
    }

    -- all of them were
    pub giving-ends : length source ≤ rest_of t → to < 512 → StopsAt new (drop used source) read to → GivesText t new source (text ++ piece)
    giving-ends enough room (inl full) = absurd (omega (arith, full, room))
    giving-ends enough room (inr stops) = record {
      text_is = λ which more long.
          giving-more.text_is which more long
          ∙ ap (λ (n : ℕ). option_map (λ (m : List ℕ). (text ++ piece) ++ m) (text_by which new (drop n source ++ more))) whole
          ∙ ap (λ (b : List ℕ). option_map (λ (m : List ℕ). (text ++ piece) ++ m) (text_by which new (b ++ more))) (drop-length source);
      rest = omega (arith, giving-more.read, whole);
      ended = stops.0;
      few = omega (arith, giving-more.few, whole);
    }
      where
        whole : used + read ≡ length source
        whole = elim stops.1 [
          | inl all-of ↦ omega (arith, all-of, held.within, length-drop {A = ℕ} used source)
          | inr none ↦ omega (arith, none, giving-more.read, giving-more.within, enough)
        ]

    -- or a bad record was met
    pub giving-bad : MeetsBad new (drop read (drop used source)) → GivesGoodText t source (text ++ piece)
    giving-bad bad = record {
      text_is = λ which more long.
          giving-more.text_is which more long
          ∙ ap (λ (b : List ℕ). option_map (λ (m : List ℕ). (text ++ piece) ++ m) (text_by which new (b ++ more)))
          (sym (drop-drop read used source))
          ∙ ap (option_map (λ (m : List ℕ). (text ++ piece) ++ m)) (bad which more (behind more long));
    }
      where
        behind : (more : List ℕ) → rest_of t ≤ length (source ++ more) → rest_of new ≤ length (drop read (drop used source) ++ more)
        behind more long =
            omega (
              arith,
              left-enough more long,
              conv.read,
              conv.within,
              length-append {A = ℕ} (drop used source) more,
              length-append {A = ℕ} (drop read (drop used source)) more,
              length-drop {A = ℕ} read (drop used source),
            )

-- nothing was given yet
pub gives-none : (t : ToText) → ends_record t ≡ false → GivesText t t [] []
gives-none t ended = record {
  text_is = λ which more long. sym (option_map-nothing (text_by which t more));
  rest = omega arith;
  ended = ended;
  few = omega arith;
}

module _ (t t' : ToText) (bytes text : List ℕ) (held : GivesText t t' bytes text) where
  behind-enough : (source more : List ℕ) → rest_of t ≤ length ((bytes ++ source) ++ more) → rest_of t' ≤ length (source ++ more)
  behind-enough source more long =
      omega (
        arith,
        held.rest,
        long,
        length-append {A = ℕ} (bytes ++ source) more,
        length-append {A = ℕ} bytes source,
        length-append {A = ℕ} source more,
      )

  both-enough : (source more : List ℕ) → rest_of t ≤ length ((bytes ++ source) ++ more) → rest_of t ≤ length (bytes ++ (source ++ more))
  both-enough source more long = omega (arith, long, ap length (append_assoc bytes source more))

  -- more bytes were converted
  pub gives-more : (new : ToText) (source piece : List ℕ) → GivesText t' new source piece
      → GivesText t new (bytes ++ source) (text ++ piece)
  gives-more new source piece next = record {
    text_is = λ which more long.
        ap (λ (b : List ℕ). text_by which t b) (append_assoc bytes source more)
        ∙ held.text_is which (source ++ more) (both-enough source more long)
        ∙ ap (option_map (λ (m : List ℕ). text ++ m)) (next.text_is which more (behind-enough source more long))
        ∙ option_map-append text piece (text_by which new more);
    rest = omega (arith, held.rest, next.rest, length-append {A = ℕ} bytes source);
    ended = next.ended;
    few = omega (arith, held.few, next.few, length-append {A = ℕ} bytes source, length-append {A = ℕ} text piece);
  }

  -- or a bad record was met in them
  pub gives-bad : (source piece : List ℕ) → GivesGoodText t' source piece → GivesGoodText t (bytes ++ source) (text ++ piece)
  gives-bad source piece next = record {
    text_is = λ which more long.
        ap (λ (b : List ℕ). text_by which t b) (append_assoc bytes source more)
        ∙ held.text_is which (source ++ more) (both-enough source more long)
        ∙ ap (option_map (λ (m : List ℕ). text ++ m)) (next.text_is which more (behind-enough source more long))
        ∙ option_map-append text piece (text_at_bad which);
  }

-- what is to come of a conversion is that of the bytes up to its end
text-cut : (which : Which) (t : ToText) (bytes : List ℕ) → text_by which t bytes ≡ text_by which t (take (rest_of t) bytes)
text-cut which t bytes =
    ap (text_from t.ends which t.layout t.place) (sym (take-take (rest_of t) (rest_of t) bytes (omega arith)))

-- blocks of a file were read and converted
module _ (index : Index) (file later : FileReader) (t : ToText) (left k : ℕ) (bytes text : List ℕ) (old now : Disk)
    (taken : Taken index file later (rest_of t) left k bytes old now) where
  abbrev behind : List ℕ
  behind = take left (all_to_come index old later)

  cut-long : IsTrue old.honest → rest_of t ≤ length (all_to_come index old file) → rest_of t ≤ length (bytes ++ behind)
  cut-long honest long =
      let whole = ap length (taken.text_is honest) in
      omega (arith, whole, length-take-le (rest_of t) (all_to_come index old file) long)

  file-text : IsTrue old.honest → (which : Which) → text_by which t (all_to_come index old file) ≡ text_by which t (bytes ++ behind)
  file-text honest which =
      text-cut which t (all_to_come index old file) ∙ ap (λ (b : List ℕ). text_by which t b) (taken.text_is honest)

  -- up to a bad record
  pub bad-text : GivesGoodText t bytes text → IsTextBeforeBad index file t old text
  bad-text held = record {
    is = λ honest long which. file-text honest which ∙ held.text_is which behind (cut-long honest long);
  }

  module _ (t' : ToText) (held : GivesText t t' bytes text) where
    so-far : IsTrue old.honest → rest_of t ≤ length (all_to_come index old file) → (which : Which)
        → text_by which t (all_to_come index old file) ≡ option_map (λ m. text ++ m) (text_by which t' behind)
    so-far honest long which = file-text honest which ∙ held.text_is which behind (cut-long honest long)

    -- to the end
    pub whole-text : rest_of t' ≡ 0 → (count : ℕ) → length text ≡ count → IsWholeText index file t count old text
    whole-text none count counted = record {
      counted = counted;
      is = λ honest long.
          so-far honest long all
          ∙ ap (option_map (λ (m : List ℕ). text ++ m)) (text_ends all t' behind none held.ended)
          ∙ ap Some (append-nil text);
    }

    -- no block is to come before the end: the file is none that has all its bytes to come
    pub ended-text : (after : FileReader) (new : Disk) → HasEnded index later after now new → 0 < rest_of t'
        → (count : ℕ) → length text ≡ count → IsWholeText index file t count old text
    ended-text after new ends some count counted = record {
      counted = counted;
      is = λ honest long.
          let none : contents_to_come index old later ≡ [] =
          sym (contents-stay index later old now _ _ taken.looked)
          ∙ ap (map (block_or_zeros now.image)) (ends.none (taken.looked.honest ∙ honest)) in
          let nothing : length behind ≡ 0 =
          ap (λ (bs : List (List ℕ)). length (take left (concat bs))) none ∙ ap length (take-nil left) in
          absurd (omega (arith, cut-long honest long, nothing, held.rest, some, length-append {A = ℕ} bytes behind));
    }

    -- a transfer failed
    pub begun-text : BeginsText index file t old text
    begun-text = record {
      is = λ honest long.
          let good-text = good-is t' behind in
          (good-text.0, so-far honest long good ∙ ap (option_map (λ (m : List ℕ). text ++ m)) good-text.1);
    }

  pub reads-broken : (after : FileReader) (new : Disk) → FailsToReadOn index later after now new
      → ReadsBefore index file (rest_of t) old new 1
  reads-broken after new fails = record {
    blocks = k;
    few = taken.few;
    come = λ honest. omega (arith, taken.blocks honest);
    looked = looked_within (looked_more taken.looked fails.looked) (omega (arith, taken.forward, taken.near));
  }

-- a text of all records is given, or none is, since a record goes past the end
module _ (index : Index) (file : FileReader) (t : ToText) (old new : Disk) (text : List ℕ) where
  pub skims-whole : (count : ℕ) → IsWholeText index file t count old text → ReadsBefore index file (rest_of t) old new 0
      → SkimsFile index file t true old new
  skims-whole count whole reads = record {
    tells = λ honest long. sym (ap is_some (whole.is honest long));
    reads = reads;
  }

  pub skims-bad : IsTextBeforeBad index file t old text → ReadsBefore index file (rest_of t) old new 0
      → SkimsFile index file t false old new
  skims-bad bad reads = record {
    tells = λ honest long. sym (ap is_some (bad.is honest long all));
    reads = reads;
  }

-- the next block was read, and converted up to the end
pub taken-poured : (index : Index) (file later : FileReader) (t t' u : ToText) (k : ℕ) (bytes : List ℕ) (old now : Disk)
    → Taken index file later (rest_of t) (rest_of t') k bytes old now
    → (after : FileReader) (block : List ℕ) (new : Disk) → ReadsOn index later after block now new → 0 < rest_of t'
    → (size : ℕ) (source piece : List ℕ) → length block ≡ 512 → size ≡ min (rest_of t') 512 → source ≡ take size block
    → IsReading index after new → GivesText t' u source piece
    → Taken index file after (rest_of t) (rest_of u) (k + 1) (bytes ++ source) old new
taken-poured index file later t t' u k bytes old now taken after block new reads some size source piece whole is cut reading gives =
    let sized : length source ≡ size = ap length cut ∙ length-take-le size block (omega (arith, whole, is)) in
    let same : rest_of t' - size ≡ rest_of u = omega (arith, gives.rest, sized) in
    subst (λ (n : ℕ). Taken index file after (rest_of t) n (k + 1) (bytes ++ source) old new) same
    (taken-more index file later (rest_of t) (rest_of t') k bytes old now taken after block new reads some size source whole is cut reading)

-- a block that is read of a file has 512 bytes
block-size : (image : Image) (lbn : ℕ) → IsImage image → length (block_or_zeros image lbn) ≡ 512
block-size image lbn is = elim (cases_lt lbn (length image)) [
  | inl within ↦ (is.each lbn (block_or_zeros image lbn) (slice_get-get_or image lbn zero_block within)).size
  | inr past ↦ ap length (get_or_past image lbn zero_block past) ∙ length-zero_block
]

blocks-size : (image : Image) (lbns : List ℕ) → IsImage image → length (concat (map (block_or_zeros image) lbns)) ≡ 512 * length lbns
blocks-size image [] is = refl
blocks-size image (lbn ∷ lbns) is =
    omega (
      arith,
      block-size image lbn is,
      blocks-size image lbns is,
      length-append {A = ℕ} (block_or_zeros image lbn) (concat (map (block_or_zeros image) lbns)),
    )

-- so has each of those before the one by which it breaks off
until-size : (image : Image) (lbns : List ℕ) (broke : Option ℕ) → IsImage image
    → length (concat (blocks_until broke (map (block_or_zeros image) lbns))) ≡ 512 * length
    (blocks_until broke (map (block_or_zeros image) lbns))
until-size image lbns None is =
    let count = length-map lbns (block_or_zeros image) in omega (arith, blocks-size image lbns is, count)
until-size image lbns (Some vbn) is =
    let same = take-map (block_or_zeros image) (vbn - 1) lbns in
    let count = length-map (take (vbn - 1) lbns) (block_or_zeros image) in
    ap (λ (bs : List (List ℕ)). length (concat bs)) same
    ∙ blocks-size image (take (vbn - 1) lbns) is
    ∙ ap (λ (n : ℕ). 512 * n) (sym (ap length same ∙ count))

-- these are a beginning of all
concat-begins : (broke : Option ℕ) (blocks : List (List ℕ)) → (more : List ℕ) × (concat blocks ≡ concat (blocks_until broke blocks) ++ more)
concat-begins None blocks = ([], sym (append-nil (concat blocks)))
concat-begins (Some vbn) blocks = (
  concat (drop (vbn - 1) blocks),
  ap concat (sym (take-append-drop (vbn - 1) blocks)) ∙ concat-append (take (vbn - 1) blocks) (drop (vbn - 1) blocks),
)

concat-until : (broke : Option ℕ) (blocks : List (List ℕ)) → length (concat (blocks_until broke blocks)) ≤ length (concat blocks)
concat-until broke blocks =
    let begins = concat-begins broke blocks in
    omega (arith, ap length begins.1, length-append {A = ℕ} (concat (blocks_until broke blocks)) begins.0)

-- a text that ends within them is the same of all
text-until : (which : Which) (t : ToText) (broke : Option ℕ) (blocks : List (List ℕ))
    → rest_of t ≤ length (concat (blocks_until broke blocks))
    → text_by which t (concat blocks) ≡ text_by which t (concat (blocks_until broke blocks))
text-until which t broke blocks within =
    let begins = concat-begins broke blocks in
    ap (λ (bs : List ℕ). text_from t.ends which t.layout t.place bs)
    (ap (take (rest_of t)) begins.1 ∙ take-append-le (rest_of t) (concat (blocks_until broke blocks)) begins.0 within)

-- no text of all records: they can't be read
none-of : (records : Option (List (List ℕ))) → option_map (text_with Lf) records ≡ None → records ≡ None
none-of None is = refl
none-of (Some records) is = absurd (cc)

-- the blocks before the one by which a file breaks off were counted
module _ (index : Index) (file : FileReader) (blocks : ℕ) (old new : Disk) (counts : CountsBlocks index file blocks old new) where
  counted : IsTrue old.honest → blocks ≡ length (contents_to_come index old file)
  counted honest =
      counts.count honest ∙ sym (length-map (blocks_to_come (table_in old.image index) file) (block_or_zeros old.image))

  pub counts-all : CountsBefore index file None blocks old new
  counts-all = record { count = counted; few = counts.few; looked = counts.looked }

  pub counts-until : (vbn few : ℕ) → few ≡ min (vbn - 1) blocks → CountsBefore index file (Some vbn) few old new
  counts-until vbn few is = record {
    count = λ honest.
        is ∙ ap (min (vbn - 1)) (counted honest) ∙ sym (length-take (vbn - 1) (contents_to_come index old file));
    few = omega (arith, is, counts.few);
    looked = counts.looked;
  }

-- the file's blocks were counted, and its conversion begun
module _ (index : Index) (file : FileReader) (broke : Option ℕ) (blocks : ℕ) (attr : List ℕ) (old mid : Disk) (image : IsImage old.image)
    (counts : CountsBefore index file broke blocks old mid) (attr-is : attr ≡ attributes (header_in_hand file)) where
  abbrev come : File
  come = file_until index old file broke

  same : contents_to_come index mid file ≡ contents_to_come index old file
  same = contents-stay index file old mid _ _ counts.looked

  as-many : IsTrue old.honest → length_of come ≡ blocks
  as-many honest = sym (counts.count honest)

  -- its attributes don't say how records lie
  module _ (none : layout_of attr ≡ None) where
    no-layout : layout_of come.attr ≡ None
    no-layout = ap layout_of (sym attr-is) ∙ none

    pub no-records : IsGoodTextOf index file broke old []
    no-records = record {
      bad = λ honest.
          ap (λ (l : Option Layout). option_and_then (λ layout. records_in layout (take (end_of come) (concat come.blocks))) l) no-layout;
      is = λ honest.
          sym (ap (λ (l : Option Layout). text_with Lf
          (unwrap_or (option_map (λ layout. good_in layout (take (end_of come) (concat come.blocks))) l) [])) no-layout);
    }

    pub no-lines : IsTrue old.honest → false ≡ is_some (lines_of_records come)
    no-lines honest = sym (ap (λ (records : Option (List (List ℕ))). is_some (option_map (text_with Lf) records)) (no-records.bad honest))

    pub reads-counted : ReadsRecords index file old mid 0
    reads-counted = record {
      blocks = 0;
      few = omega arith;
      come = λ honest. omega arith;
      looked = looked_within counts.looked (omega arith);
    }

  -- or it is converted
  module _ (t : ToText)
      (starts : (which : Which) (f : File) → f.attr ≡ attr → length_of f ≡ blocks → text_by which t (concat f.blocks) ≡ converted_by Lf
      which f)
      (rest : rest_of t ≡ min (stated_end attr) (512 * blocks)) where
    -- it ends within those
    few : IsTrue old.honest → rest_of t ≤ length (concat come.blocks)
    few honest =
        let sized = until-size old.image (blocks_to_come (table_in old.image index) file) broke image in
        omega (arith, rest, sized, counts.count honest)

    started : IsTrue old.honest → (which : Which) → converted_by Lf which come ≡ text_by which t (all_to_come index mid file)
    started honest which =
        sym (starts which come (sym attr-is) (as-many honest))
        ∙ sym (text-until which t broke (contents_to_come index old file) (few honest))
        ∙ ap (λ (bs : List (List ℕ)). text_by which t (concat bs)) (sym same)

    long : IsTrue old.honest → rest_of t ≤ length (all_to_come index mid file)
    long honest =
        let part = concat-until broke (contents_to_come index old file) in
        let now : length (all_to_come index mid file) ≡ length (concat (contents_to_come index old file)) =
        ap (λ (bs : List (List ℕ)). length (concat bs)) same in
        omega (arith, few honest, part, now)

    pub skimmed : (answer : Bool) (new : Disk) → SkimsFile index file t answer mid new → IsTrue old.honest
        → answer ≡ is_some (lines_of_records come)
    skimmed answer new skims honest =
        skims.tells (counts.looked.honest ∙ honest) (long honest) ∙ ap is_some (sym (started honest all))

    pub reads-of : (faults : ℕ) (new : Disk) → ReadsBefore index file (rest_of t) mid new faults → ReadsRecords index file old new faults
    reads-of faults new reads =
        let end : stated_end attr ≡ stated_end (attributes (header_in_hand file)) = ap stated_end attr-is in
        record {
          blocks = reads.blocks;
          few = omega (arith, reads.few, rest, end);
          come = λ honest.
              let many : length (contents_to_come index mid file) ≡ length (contents_to_come index old file) = ap length same in
              omega (arith, reads.come (counts.looked.honest ∙ honest), many);
          looked = looked_within (looked_more counts.looked reads.looked) (omega arith);
        }

    module _ {W : Type 0} (new : Disk) (contents : W → Option (List ℕ)) (before after : W) where
      pub writes-text : (count : ℕ) → PoursText (IsWholeText index file t count mid) index file t mid new 0 contents before after
          → WritesText index file broke count old new contents before after
      writes-text count pours = record {
        takes = record {
          text = pours.takes.text;
          is = record {
            counted = pours.takes.is.counted;
            is = λ honest. started honest all ∙ pours.takes.is.is (counts.looked.honest ∙ honest) (long honest);
          };
          takes = pours.takes.takes;
        };
        reads = reads-of 0 new pours.reads;
      }

      pub writes-good-text : PoursText (IsTextBeforeBad index file t mid) index file t mid new 0 contents before after
          → WritesGoodText index file broke old new contents before after
      writes-good-text pours =
          let text = pours.takes.text in
          let before-bad : IsTrue old.honest → (which : Which)
          → converted_by Lf which come ≡ option_map (λ m. text ++ m) (text_at_bad which) =
          λ honest which. started honest which ∙ pours.takes.is.is (counts.looked.honest ∙ honest) (long honest) which in
          record {
            takes = record {
              text = text;
              is = record {
                bad = λ honest. none-of (records_of come) (before-bad honest all);
                is = λ honest. sym (some-one (before-bad honest good) ∙ append-nil text);
              };
              takes = pours.takes.takes;
            };
            reads = reads-of 0 new pours.reads;
          }

      pub fails-to-write : (failure : Failure) → FailsToPour failure index file t mid new contents before after
          → FailsToWriteText failure index file broke old new contents before after
      fails-to-write DeviceFault pours = record {
        takes = record {
          text = pours.takes.text;
          is = record {
            begins = λ honest.
                let begun = pours.takes.is.is (counts.looked.honest ∙ honest) (long honest) in
                record { rest = begun.0; is = some-one (started honest good ∙ begun.1) };
          };
          takes = pours.takes.takes;
        };
        reads = reads-of 1 new pours.reads;
      }
      fails-to-write NoMemory pours = pours
      fails-to-write CannotWrite reads = reads-of 0 new reads

-- the blocks couldn't be counted
pub reads-uncounted : (index : Index) (file : FileReader) (old new : Disk) → Looked old new (headers_left file) 1
    → ReadsRecords index file old new 1
reads-uncounted index file old new looked = record {
  blocks = 0;
  few = omega arith;
  come = λ honest. omega arith;
  looked = looked_within looked (omega arith);
}

-- nothing was written then
pub uncounted : {W : Type 0} (index : Index) (file : FileReader) (broke : Option ℕ) (old new : Disk) (contents : W → Option (List ℕ))
    (w : W) → Looked old new (headers_left file) 1 → BreaksOffText index file broke old new contents w w
uncounted index file broke old new contents w looked = record {
  takes = record {
    text = [];
    is = record { begins = λ honest. record { rest = good_lines (file_until index old file broke); is = refl } };
    takes = Appends-nil _;
  };
  reads = reads-uncounted index file old new looked;
}
