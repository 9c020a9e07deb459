pub mod ConversionInstances
pub mod ConversionLaws
pub mod ConvertBack
