-- What is printed are the digits, which give the bytes back.
use Rattle.std.proofs.Common.{◌<◌, [], refl, arith}
use Rattle.std.proofs.ByRecursion.{All-from_get_or}
use Rattle.std.proofs.lemmas.Result.{IfOk-weaker}
use Rattle.hexadecimal.specs.HexLaws.{written_digits}
use Rattle.hexadecimal.proofs.text.Goals as goal

pub returns : goal.returns
returns c =
    let bytes = c.args.bytes.now in
    let small = All-from_get_or (λ b. b < 256) bytes 0 (λ i h. omega (arith, c.type_inv.bytes i)) in
    IfOk-weaker c.format.result _ _ (λ t e. written_digits [] _ bytes e small refl) c.format.ensures.ok
