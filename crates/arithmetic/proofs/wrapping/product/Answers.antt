-- `wrapping::product`: the halves are below 2^32, so no product of two wraps; the sum is `halves_product` at 32 bits.
use Rattle.std.proofs.Common.{arith}
use Rattle.laws.proofs.Modulo.{product_below, halves_product}
use Rattle.arithmetic.proofs.wrapping.product.Goals as goal

pub overflow_mul-middle : goal.overflow_mul-middle
overflow_mul-middle c = record { fits = product_below 32 (omega arith) (omega arith) }

pub overflow_mul-result : goal.overflow_mul-result
overflow_mul-result c = record { fits = product_below 32 (omega arith) (omega arith) }

pub overflow_mul-middle-2 : goal.overflow_mul-middle-2
overflow_mul-middle-2 c = record { fits = product_below 32 (omega arith) (omega arith) }

pub returns : goal.returns
returns c =
    halves_product 32 c.args.a c.args.b
