-- The link to FrRawData is where the layouts have it.
use Rattle.contents_table.proofs.HeadFields.{raw-none, raw-there}
use Rattle.contents_table.proofs.layouts.ChannelLayouts.raw_data_field.Goals as goal

pub returns-in_err-self : goal.returns-in_err-self
returns-in_err-self c = λ held plans s n m raw.
    raw-none held plans c.args.self.now s n m c.from_residual.result c.in_err-self.was raw

pub returns : goal.returns
returns c = λ held plans s n m raw.
    raw-there held plans c.args.self.now s n m c.in_ok-self.field-0 c.in_ok-self.was raw
