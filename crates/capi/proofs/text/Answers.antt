use Rattle.std.proofs.Common.{rules}
use Rattle.capi.proofs.Names.{no_text}
use Rattle.capi.proofs.text.Goals as goal

pub returns-in-Err : goal.returns-in-Err
returns-in-Err c = no_text c.args.bytes.now (search rules)
