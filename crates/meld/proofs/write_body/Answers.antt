-- `meld::write_body` meets its contract: two copies that fill their parts, one behind the other.
use Rattle.std.proofs.Common.{refl, arith}
use Rattle.meld.proofs.Place.{put_twice}
use Rattle.meld.proofs.write_body.Goals as goal

pub returns : goal.returns
returns c =
    let v = c.args in
    put_twice v.at v.by _ _ v.out.now v.first.now v.second.now _ _ refl refl (omega (arith, c.requires)) (λ i. (c.type_inv.second i).fits) c.copy_into.ensures c.copy_shifted.ensures
