use Rattle.std.proofs.Common.{[], ◌∙◌, sym, arith}
use Rattle.std.specs.List.{range_with_len}
use Rattle.std.proofs.lemmas.Simd.{map-map}
use Rattle.std.proofs.lemmas.List.FromFn.{fill_by_all}
use Rattle.f11_store.specs.Directory.{record_in}
use Rattle.f11_dir.specs.Records.{records_in, record_of_bytes}
use Rattle.f11_dir.proofs.search.records.Goals as goal

pub returns : goal.returns
unfolding records_in
returns c =
    fill_by_all (λ k. record_of_bytes (record_in c.args.block.now k)) c.loop-i.records 32 (record_of_bytes []) c.loop-i.invariant.long
    (λ k h. c.loop-i.invariant.read k (omega (arith, h)))
    ∙ sym (map-map record_of_bytes (record_in c.args.block.now) (range_with_len 0 32))
