mod CsvRecords
mod Elements
mod FieldAt
mod JoinedFields
mod PlainFields
mod RouteNames
mod RowByRow
mod InParts
