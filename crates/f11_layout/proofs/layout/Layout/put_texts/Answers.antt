use Rattle.f11_layout.proofs.TextLemmas.{texts-put}
use Rattle.f11_layout.proofs.layout.Layout.put_texts.Goals as goal

pub returns : goal.returns
returns c =
    texts-put _ _ _ _ _ _ _ _ _ _ _ c.label.ensures c.label-2.ensures c.owner_text.ensures c.put_bytes.ensures c.put_bytes-2.ensures
    c.put_bytes-3.ensures c.put_bytes-4.ensures c.put_bytes-5.ensures c.put_bytes-6.ensures
